-- Tables of tests: each line a test with its answer, and the first that holds is the answer.
-- The refusals of an event, the faults of a configuration and the faults of an LSA are such tables:
-- the order of the table is the order of the list.
use Rattle.std.specs.Prelude.{Bool, List, [], ◌∷◌, Option, Some, None, if◌then◌else◌}

-- the answer of the first line whose test holds, or `None` if no test does
abbrev pub first_of : {X : Type 0} → List (Bool × X) → Option X
first_of [] = None
first_of (line ∷ lines) = if line.0 then Some line.1 else first_of lines
