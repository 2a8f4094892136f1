-- A line that is returned shorter than the longest length is the input's own.
use Rattle.std.proofs.Common.{ℕ, ◌≡◌, ◌<◌, ◌≤◌, ◌++◌, List, length, take, drop, ap, ◌∙◌, arith, append-nil, length-append, length-take}
use Rattle.std.proofs.lemmas.List.{take_all, drop_all}
use Rattle.input_reading.specs.Shortened.{mark_of, shortened}
use Rattle.input_reading.specs.declared.line.TheConstants.{LONGEST}

-- a line that fits is whole
fits : (limit : ℕ) (raw mark : List ℕ) → length (take limit raw ++ mark) < limit → length raw ≤ limit
fits limit raw mark short = omega (arith, length-append (take limit raw) mark, length-take limit raw)

no_mark : (limit : ℕ) (raw : List ℕ) → length raw ≤ limit → take limit raw ++ mark_of (drop limit raw) ≡ raw
no_mark limit raw within = ap (λ rest. take limit raw ++ mark_of rest) (drop_all limit raw within) ∙ append-nil (take limit raw) ∙ take_all limit raw within

pub shortened_short : (raw : List ℕ) → length (shortened raw) < LONGEST → shortened raw ≡ raw
shortened_short raw short = no_mark LONGEST raw (fits LONGEST raw (mark_of (drop LONGEST raw)) short)
