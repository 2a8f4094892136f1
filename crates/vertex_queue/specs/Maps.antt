-- The maps that a tree keeps: from vertices to distances, and from vertices to next hops.
use Rattle.std.specs.Prelude.{◌<◌, ℕ, List, Option, Some, None, IfSome}
use Rattle.std.specs.FinMap.{FinMap, get, insert, remove}
use Rattle.std.specs.List.Sorted.{IsStrictlySortedBy}
use Rattle.ospf_types.specs.declared.entry.Vertex.{Vertex}
use Rattle.ospf_types.specs.declared.hop.NextHop.{NextHop}
use Rattle.ospf_types.specs.Hops.{hop_cmp}
use Rattle.ospf_types.specs.Vertices.{vertex_cmp}

abbrev pub DistanceMap : Type 0
DistanceMap = FinMap vertex_cmp ℕ

abbrev pub HopMap : Type 0
HopMap = FinMap vertex_cmp (List NextHop)

-- distances stay below this
abbrev pub most_distance : ℕ
most_distance = 1073741824

-- each distance is below it
abbrev pub AreBounded : DistanceMap → Type 0
AreBounded m = (v : Vertex) → IfSome (get m v) (λ distance. distance < most_distance)

-- the next hops with those of a vertex set, or taken out
abbrev pub with_hops : HopMap → Vertex → Option (List NextHop) → HopMap
with_hops m v (Some hops) = insert m v hops
with_hops m v None = remove m v

-- the next hops of each vertex are in their order, without duplicates
abbrev pub AreHopsInOrder : HopMap → Type 0
AreHopsInOrder m = (v : Vertex) → IfSome (get m v) (λ (hops : List NextHop). IsStrictlySortedBy hop_cmp hops)
