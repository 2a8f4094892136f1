-- One step after another.
use Rattle.std.proofs.Common.{ℕ, ◌≡◌, ◌⊎◌, inl, inr, List, [], Option, Result, Err, IsErrAnd, sym, ap, subst, ◌∙◌}
use Rattle.std.proofs.lemmas.Result.{err_from_is_err_and}
use Rattle.captures.specs.Runs.{ShownPacket}
use Rattle.captures.specs.declared.capture_error.CaptureError.{CaptureError}
use Rattle.captures.specs.declared.reader.PacketHead.{PacketHead}
use Rattle.captures.specs.Positions.{Position, GoesOn, Stops, ReadsNext}
use Rattle.captures.proofs.Going.{both_ways}

-- before the first turn nothing has changed
abbrev pub IsUnderWay : (turns : ℕ) (old : Position) (before : Option (List ℕ)) (new : Position) (after : Option (List ℕ)) → Type 0
IsUnderWay turns old before new after = ((turns ≡ 0) × (new ≡ old) × (after ≡ before)) ⊎ GoesOn old before new after []

pub joined : (turns : ℕ) (p q s : Position) (before between after : Option (List ℕ)) (packets : List ShownPacket) → IsUnderWay turns p before q between → GoesOn q between s after packets
    → GoesOn p before s after packets
joined turns p q s before between after packets (inl none) goes =
    subst (λ o. GoesOn o before s after packets) none.1 (subst (λ b. GoesOn q b s after packets) none.2 goes)
joined turns p q s before between after packets (inr one) goes = both_ways p q s before between after [] packets one goes

pub next_failed : (old : Position) (before : Option (List ℕ)) (new : Position) (after : Option (List ℕ)) (bytes : List ℕ) (r : Result (Option PacketHead) CaptureError) (e : CaptureError)
    → IsErrAnd r (λ f. f ≡ e) → GoesOn old before new after [] → Stops e new after → ReadsNext old before new after bytes r
next_failed old before new after bytes r e err goes stops =
    let found = err_from_is_err_and r err in
    subst (ReadsNext old before new after bytes) (sym (found.1 ∙ ap Err found.2)) (goes, stops)
