-- How one of many vertices is found: it is marked with the index at which the list has it. No
-- public clause cites this module.
use Rattle.std.specs.Prelude.{◌≡◌, ◌⊎◌, ◌≤◌, ℕ, List, Contains, Some, length, slice_get}
use Rattle.std.specs.FinMap.{FinMap, get}
use Rattle.ospf_types.specs.declared.entry.Vertex.{Vertex}
use Rattle.ospf_types.specs.Vertices.{vertex_cmp}

abbrev pub Marks : Type 0
Marks = FinMap vertex_cmp ℕ

-- the list has the vertex at its mark
abbrev pub IsMarked : Marks → List Vertex → Vertex → Type 0
IsMarked marks list v = (i : ℕ) × (get marks v ≡ Some i) × (slice_get list i ≡ Some v)

-- each vertex of the list has its mark
abbrev pub AreMarked : Marks → List Vertex → Type 0
AreMarked marks list = (v : Vertex) → Contains list v → IsMarked marks list v

-- the vertices are few, or each has its mark
abbrev pub AreFound : Marks → List Vertex → Type 0
AreFound marks list = (length list ≤ 16) ⊎ AreMarked marks list
