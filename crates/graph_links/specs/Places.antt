-- Where a vertex has its row, and what a row that is put there changes.
use Rattle.std.specs.Prelude.{ℕ, ◌≡◌, List, Some, slice_get, if◌then◌else◌}
use Rattle.std.specs.FinMap.{find}
use Rattle.std.specs.Ordering.{eq_by_cmp}
use Rattle.ospf_types.specs.declared.entry.Vertex.{Vertex}
use Rattle.ospf_types.specs.Vertices.{vertex_cmp}
use Rattle.graph_links.specs.declared.row.Row.{Row}

-- the vertex's row is at the place
abbrev pub IsRowAt : List (Vertex × Row) → Vertex → ℕ → Type 0
IsRowAt rows v place = (row : Row) × (slice_get rows place ≡ Some (v, row))

-- the vertex has this row, and each other vertex what it had
abbrev pub PutsRow : Vertex → Row → List (Vertex × Row) → List (Vertex × Row) → Type 0
PutsRow v row old new = (w : Vertex) → find vertex_cmp w new ≡ (if eq_by_cmp vertex_cmp w v then Some row else find vertex_cmp w old)

-- the vertex whose row was at the place has this row, and each other vertex what it had
abbrev pub PutsRowAt : ℕ → Row → List (Vertex × Row) → List (Vertex × Row) → Type 0
PutsRowAt place row old new = (v : Vertex) → IsRowAt old v place → PutsRow v row old new
