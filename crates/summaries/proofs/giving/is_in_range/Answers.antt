-- One range more.
use Rattle.std.proofs.Common.{List, subst}
use Rattle.ospf_types.specs.declared.config.Range.{Range}
use Rattle.ospf_types.specs.Address.{Covers}
use Rattle.active_ranges.proofs.Searching.{HasNone, none_next, none_of, all_lack}
use Rattle.summaries.proofs.giving.is_in_range.Goals as goal

pub loop-range-preserved : goal.loop-range-preserved
loop-range-preserved c =
    none_next (λ (r : Range). Covers r.prefix c.args.network) c.as_slice-range-items.result.now c.loop-range.range-index c.range-item.result c.loop-range-test.true c.range-item.is c.loop-range.invariant (λ covers. absurd (let wrong = c.if-covers.ensures.1 covers in cc))

pub returns : goal.returns
returns c =
    let P : Range → Type 0 = λ r. Covers r.prefix c.args.network in
    let none = none_of P c.as_slice-range-items.result.now c.loop-range.range-index c.loop-range-test.false c.loop-range.invariant in
    (λ t. absurd cc, λ some. absurd (some (all_lack P c.args.area.now.ranges (subst (λ (rs : List Range). HasNone P rs) c.as_slice-range-items.ensures none))))
