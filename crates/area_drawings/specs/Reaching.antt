-- The vertices that are reached, with their distances.
use Rattle.std.specs.Prelude.{◌↔◌, ◌≡◌, ◌≢◌, ◌++◌, ℕ, List, length, Contains, Option, Some, IsSome, option_map, option_to_list}
use Rattle.std.specs.FinMap.{get}
use Rattle.std.specs.List.{AllPairs}
use Rattle.ospf_types.specs.declared.entry.Vertex.{Vertex}
use Rattle.ospf_types.specs.declared.key.Key.{Key}
use Rattle.lsdb.specs.Databases.{Database}
use Rattle.area_trees.specs.Areas.{AreaTreeValue, vertex_of}
use Rattle.area_drawings.specs.declared.reached.ReachedVertex.{ReachedVertex}

-- the database has an LSA that describes the vertex: a router-LSA, or a network-LSA
abbrev pub HasVertex : Database → Vertex → Type 0
HasVertex d v = (key : Key) × IsSome (get d key) × (vertex_of key ≡ Some v)

-- the vertex with its distance, if it has one
abbrev pub reached_by : AreaTreeValue → Vertex → Option ReachedVertex
reached_by t v = option_map (λ distance. record { vertex = v; distance = distance }) (get t.tree.distances v)

-- the vertex is added, if it is reached
abbrev pub AddsReached : AreaTreeValue → Vertex → List ReachedVertex → List ReachedVertex → Type 0
AddsReached t v old new = new ≡ old ++ option_to_list (reached_by t v)

-- exactly the vertices that have an LSA in the database and are reached, without duplicates, at
-- their distances
pub record AreReached (d : Database) (t : AreaTreeValue) (reached : List ReachedVertex) : Type 0 where
  pub exact : (r : ReachedVertex) → Contains reached r ↔ (HasVertex d r.vertex × (get t.tree.distances r.vertex ≡ Some r.distance))
  pub once : AllPairs (λ p q. p.vertex ≢ q.vertex) reached

-- it is the number of the vertices that have an LSA in the database and are reached
abbrev pub IsCount : Database → AreaTreeValue → ℕ → Type 0
IsCount d t count = (reached : List ReachedVertex) × AreReached d t reached × (count ≡ length reached)
