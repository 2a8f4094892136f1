-- One area more.
use Rattle.std.proofs.Common.{◌≡◌, sym, ◌∙◌, true, false}
use Rattle.active_ranges.proofs.Searching.{none_next, none_of}
use Rattle.active_ranges.proofs.Inside.{HasRange, not_configured}
use Rattle.active_ranges.proofs.within.is_configured.Goals as goal
use Rattle.active_ranges.proofs.within.is_configured.Goals.{else-area-id-via-then-area-id+else-has_range, else-area-id-via-else-area-id}

pub loop-area-preserved : goal.loop-area-preserved
loop-area-preserved c =
    none_next (HasRange c.args.id c.args.prefix) c.args.areas.now c.loop-area.area-index c.area-item.result c.loop-area-test.true c.area-item.is c.loop-area.invariant
    (λ has. elim c.else-area-id.branch [
      | else-area-id-via-then-area-id+else-has_range w ↦ absurd (let wrong : true ≡ false = sym (w.has_range.ensures.1 has.1) ∙ w.if-has_range.false in cc)
      | else-area-id-via-else-area-id w ↦ w.if-area-id.false has.0
    ])

pub returns : goal.returns
returns c =
    let none = none_of (HasRange c.args.id c.args.prefix) c.args.areas.now c.loop-area.area-index c.loop-area-test.false c.loop-area.invariant in
    (λ t. absurd cc, λ w. absurd (not_configured c.args.areas.now c.args.id c.args.prefix none w))
