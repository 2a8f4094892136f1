-- The columns of a picture.
use Rattle.std.specs.Prelude.{◌↔◌, ◌≡◌, Bool, false, true, List, Contains}
use Rattle.std.specs.Ordering.{nat_cmp, bool_cmp, ordering_then}
use Rattle.std.specs.declared.cmp.Ordering.{Ordering}
use Rattle.ospf_types.specs.declared.entry.Vertex.{Vertex}
use Rattle.ospf_types.specs.declared.entry.Vertex.TheVariants.{Router, Network}
use Rattle.area_drawings.specs.declared.columns.Column.{Column}
use Rattle.area_drawings.specs.declared.reached.ReachedVertex.{ReachedVertex}

abbrev pub is_router : Vertex → Bool
is_router (Router r) = true
is_router (Network n) = false

-- by distance, and networks before routers
abbrev pub column_cmp : Column → Column → Ordering
column_cmp a b = ordering_then (nat_cmp a.distance b.distance) (bool_cmp a.of_routers b.of_routers)

abbrev pub column_of : ReachedVertex → Column
column_of r = record { distance = r.distance; of_routers = is_router r.vertex }

-- a column for each of the vertices, and no others
abbrev pub AreColumnsOf : List ReachedVertex → List Column → Type 0
AreColumnsOf reached columns = (c : Column) → Contains columns c ↔ ((r : ReachedVertex) × Contains reached r × (column_of r ≡ c))
