-- One area more; then all are there.
use Rattle.std.proofs.Common.{List, subst}
use Rattle.std.proofs.lemmas.Result.{IfOk-weaker}
use Rattle.ospf_types.specs.declared.config.AreaConfig.{AreaConfig}
use Rattle.ospf_types.specs.declared.key.Dest.{Dest}
use Rattle.route_choice.specs.Lists.{GainsAll, IsOfSome}
use Rattle.route_choice.proofs.Adding.{gains_next, gains_all}
use Rattle.summaries.specs.Touched.{IsOverIn}
use Rattle.summaries.proofs.Adding.{all_touched}
use Rattle.summaries.proofs.affected.affected.Goals as goal

pub loop-area-preserved : goal.loop-area-preserved
loop-area-preserved c =
    gains_next (λ (a : AreaConfig). IsOverIn a.ranges c.args.dests.now) c.args.areas.now c.loop-area.area-index c.area-item.result c.in_ok-found.found.items c.loop-area.found.items c.push_ranges_of.new.found.items
    c.loop-area-test.true c.area-item.is c.loop-area.invariant c.in_ok-push_ranges_of.ensures

pub returns-clause-enough : goal.returns-clause-enough
returns-clause-enough c = IfOk-weaker c.sorted_unique.result _ _ (λ all same d affected.
    let areas = c.args.areas.now in
    let dests = c.args.dests.now in
    let found = c.loop-area.found.items in
    let P = λ (a : AreaConfig). IsOverIn a.ranges dests in
    let also = gains_all P areas c.loop-area.area-index c.in_ok-found.found.items found c.loop-area-test.false c.loop-area.invariant in
    (same d).1 (all_touched areas dests found (subst (λ (ds : List Dest). GainsAll (IsOfSome areas P) ds found) c.in_ok-found.ensures.items also) d affected)) c.sorted_unique.ensures.same
