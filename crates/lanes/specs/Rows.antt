-- The rows of a column at which a test passes.
use Rattle.std.specs.Prelude.{ℕ, ◌≡◌, ◌+◌, ◌++◌, ◌==◌, Bool, List, [], ◌∷◌, if◌then◌else◌}
use Rattle.std.specs.Global.{Vec}

-- the numbers of the rows that pass the test, ascending, where the first row has the number k
abbrev pub rows_from : {X : Type 0} → (X → Bool) → ℕ → List X → List ℕ
rows_from p k [] = []
rows_from p k (x ∷ xs) = if p x then k ∷ rows_from p (k + 1) xs else rows_from p (k + 1) xs

-- the numbers of the rows that pass the test, ascending, counted from 0
abbrev pub places : {X : Type 0} → (X → Bool) → List X → List ℕ
places p xs = rows_from p 0 xs

-- the rows at which a column has the number, ascending
abbrev pub places_of : (number : ℕ) → List ℕ → List ℕ
places_of number column = places (λ n. n == number) column

-- the rows at which a column has the value, ascending
abbrev pub places_by : {X : Type 0} → (X → X → Bool) → X → List X → List ℕ
places_by {X} eq value column = places (λ x. eq x value) column

-- the rows at which a column has the value, ascending, where the first row has the number k
abbrev pub rows_by : {X : Type 0} → (X → X → Bool) → X → ℕ → List X → List ℕ
rows_by {X} eq value k column = rows_from (λ x. eq x value) k column

-- these rows come after those that were there
abbrev pub AddsRows : (old new : Vec ℕ) → (found : List ℕ) → Type 0
AddsRows old new found = new.items ≡ old.items ++ found
