-- One area more.
use Rattle.std.proofs.Common.{rules, ◌≡◌, sym, ◌∙◌, true, false}
use Rattle.summaries.proofs.GivenParts.{HasInRange, is_outside}
use Rattle.active_ranges.proofs.Searching.{none_next, none_of}
use Rattle.summaries.proofs.giving.is_outside.Goals as goal
use Rattle.summaries.proofs.giving.is_outside.Goals.{else-area-id-via-then-area-id+else-is_in_range, else-area-id-via-else-area-id}

pub loop-area-preserved : goal.loop-area-preserved
loop-area-preserved c =
    none_next (HasInRange c.args.id c.args.network) c.args.areas.now c.loop-area.area-index c.area-item.result c.loop-area-test.true c.area-item.is c.loop-area.invariant
    (λ has. elim c.else-area-id.branch [
      | else-area-id-via-then-area-id+else-is_in_range w ↦ absurd (let wrong : true ≡ false = sym (w.is_in_range.ensures.1 has.1) ∙ w.if-is_in_range.false in cc)
      | else-area-id-via-else-area-id w ↦ w.if-area-id.false has.0
    ])

pub returns : goal.returns
returns c =
    let none = none_of (HasInRange c.args.id c.args.network) c.args.areas.now c.loop-area.area-index c.loop-area-test.false c.loop-area.invariant in
    (λ t. is_outside c.args.areas.now c.args.id c.args.network none, λ w. search rules)
