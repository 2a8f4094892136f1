-- One range more.
use Rattle.std.proofs.Common.{List, subst}
use Rattle.ospf_types.specs.declared.config.Range.{Range}
use Rattle.route_choice.specs.Lists.{GainsAll}
use Rattle.summaries.specs.Touched.{IsOverNetworks, IsOverIn}
use Rattle.route_choice.proofs.Adding.{gains_next, gains_all}
use Rattle.summaries.proofs.affected.push_ranges_of.Goals as goal

pub loop-range-preserved : goal.loop-range-preserved
loop-range-preserved c =
    gains_next (λ (r : Range). IsOverNetworks c.args.dests.now r.prefix) c.as_slice-range-items.result.now c.loop-range.range-index c.range-item.result c.args.found.now.items c.loop-range.found.items c.push_range.new.found.items
    c.loop-range-test.true c.range-item.is c.loop-range.invariant c.in_ok-push_range.ensures

pub returns : goal.returns
returns c =
    subst (λ (rs : List Range). GainsAll (IsOverIn rs c.args.dests.now) c.args.found.now.items c.loop-range.found.items) c.as_slice-range-items.ensures
    (gains_all (λ (r : Range). IsOverNetworks c.args.dests.now r.prefix) c.as_slice-range-items.result.now c.loop-range.range-index c.args.found.now.items c.loop-range.found.items c.loop-range-test.false c.loop-range.invariant)
