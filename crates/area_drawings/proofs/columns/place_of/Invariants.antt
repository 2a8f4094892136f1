use Rattle.std.proofs.Common.{◌≡◌, ℕ, ◌<◌, get_or}
use Rattle.area_drawings.proofs.columns.place_of.Given as goal

-- none of those before is the column
abbrev pub invariant-loop-place : goal.invariant-loop-place
invariant-loop-place l = (k : ℕ) → k < l.place → get_or l.columns k l.column ≡ l.column → ⊥
