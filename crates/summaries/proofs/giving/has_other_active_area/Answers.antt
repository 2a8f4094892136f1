-- One area more.
use Rattle.std.proofs.Common.{◌≢◌, ℕ, get_or}
use Rattle.std.proofs.lemmas.List.{get_or_default}
use Rattle.active_ranges.proofs.Searching.{none_next, none_of}
use Rattle.summaries.proofs.giving.has_other_active_area.Goals as goal

pub loop-another-preserved : goal.loop-another-preserved
loop-another-preserved c =
    let active = c.args.active.now in
    let i = c.loop-another.another-index in
    none_next (λ (another : ℕ). another ≢ c.args.area) active i (get_or active i 0) c.loop-another-test.true (get_or_default active i 0 (get_or active i 0) c.loop-another-test.true) c.loop-another.invariant (λ other. other c.if-another-area.false)

pub returns : goal.returns
returns c =
    let none = none_of (λ (another : ℕ). another ≢ c.args.area) c.args.active.now c.loop-another.another-index c.loop-another-test.false c.loop-another.invariant in
    (λ t. absurd cc, λ w. absurd (none w.0 w.1 w.2))
