-- Texts that are written piece by piece.
use Rattle.std.proofs.Common.{◌≡◌, ◌∙◌, ◌++◌, List, ℕ, Result, Ok, Err, OnOk, ap, append_assoc}

-- two pieces, the second of which may fail
pub two_pieces : {T E : Type 0} (r : Result T E) (old mid new a b : List ℕ) → mid ≡ old ++ a → OnOk r (new ≡ mid ++ b) → OnOk r (new ≡ old ++ (a ++ b))
two_pieces (Ok x) old mid new a b first second = second ∙ ap (λ (t : List ℕ). t ++ b) first ∙ append_assoc old a b
two_pieces (Err e) old mid new a b first second = tt
