-- The values that entries have, where an entry may have none. An entry is a vertex, its place, and
-- its value.
use Rattle.std.specs.Prelude.{◌≡◌, ℕ, Bool, List, [], ◌∷◌, Option, Some, None, is_some, slice_get}
use Rattle.std.specs.FinMap.{FinMap, empty, get, insert, remove}
use Rattle.ospf_types.specs.declared.entry.Vertex.{Vertex}
use Rattle.ospf_types.specs.Vertices.{vertex_cmp}

module _ {V : Type 0} where
  -- a vertex's value set, or taken out
  abbrev pub with_value : FinMap vertex_cmp V → Vertex → Option V → FinMap vertex_cmp V
  with_value m v (Some x) = insert m v x
  with_value m v None = remove m v

  -- each vertex at the value of its first entry
  abbrev pub values_of : List (Vertex × (ℕ × Option V)) → FinMap vertex_cmp V
  values_of [] = empty
  values_of (e ∷ es) = with_value (values_of es) e.0 e.1.1

  -- the value of an entry, if there is the entry and it has one
  abbrev pub inner : Option (ℕ × Option V) → Option V
  inner None = None
  inner (Some p) = p.1

  -- the vertex's entry is there
  abbrev pub IsAt : List (Vertex × (ℕ × Option V)) → Vertex → ℕ → Type 0
  IsAt es v i = (p : ℕ × Option V) × (slice_get es i ≡ Some (v, p))

  -- whether the vertex has a value
  abbrev pub is_valued : List (Vertex × (ℕ × Option V)) → Vertex → Bool
  is_valued es v = is_some (get (values_of es) v)

  -- the vertex whose entry is at the place has this value or none, and each other vertex what it
  -- had
  abbrev pub WritesAt : ℕ → Option V → List (Vertex × (ℕ × Option V)) → List (Vertex × (ℕ × Option V)) → Type 0
  WritesAt place value old new = (v : Vertex) → IsAt old v place → values_of new ≡ with_value (values_of old) v value

  -- the vertex has no value, and each other vertex what it had
  abbrev pub TakesOut : Vertex → List (Vertex × (ℕ × Option V)) → List (Vertex × (ℕ × Option V)) → Type 0
  TakesOut v old new = values_of new ≡ remove (values_of old) v
