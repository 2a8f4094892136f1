-- The traces that each of several things gives, one thing after the other.
use Rattle.std.specs.Prelude.{◌≡◌, ◌⊎◌, List, [], ◌∷◌, ◌++◌}
use Rattle.explanation.specs.declared.trace.Trace.{Trace}

-- the traces that the first of these things gives, then those of the next, and so on, and no other
abbrev pub AreOfEach : {A : Type 0} → (A → List Trace → Type 0) → List A → List Trace → Type 0
AreOfEach Gives [] traces = traces ≡ []
AreOfEach Gives (x ∷ xs) traces = (own rest : List Trace) × Gives x own × (traces ≡ own ++ rest) × AreOfEach Gives xs rest

-- one trace of this kind; none just where there is no such path
abbrev pub GivesOneTrace : (Trace → Type 0) → Type 0 → List Trace → Type 0
GivesOneTrace IsTrace Leads traces = ((t : Trace) × IsTrace t × (traces ≡ t ∷ [])) ⊎ ((Leads → ⊥) × (traces ≡ []))

-- the traces that are given are added
abbrev pub AddsTraces : (List Trace → Type 0) → List Trace → List Trace → Type 0
AddsTraces Gives before after = (own : List Trace) × Gives own × (after ≡ before ++ own)
