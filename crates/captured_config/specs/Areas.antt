-- Which areas the packets of a capture name.
use Rattle.std.specs.Prelude.{ℕ, ◌==◌, ◌++◌, if◌then◌else◌, List, [], ◌∷◌, map}
use Rattle.std.specs.List.{list_any}
use Rattle.std.specs.Ordering.{nat_cmp}
use Rattle.std.specs.FinMap.{FinMap, entries, from_entries}
use Rattle.std.specs.Map.{keys_of}

-- the Area IDs that were seen, and this one, without duplicates
abbrev pub with_area : List ℕ → ℕ → List ℕ
with_area areas area = if list_any (λ a. area == a) areas then areas else areas ++ area ∷ []

-- the set of the Area IDs
abbrev pub set_of : List ℕ → FinMap nat_cmp (Unit {0})
set_of areas = from_entries (map (λ (area : ℕ). (area, tt)) areas)

-- each Area ID once, ascending
unfoldable pub ascending : List ℕ → List ℕ
ascending areas = keys_of (entries (set_of areas))
