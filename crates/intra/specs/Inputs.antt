-- What intra-area routes are calculated from: databases with their trees, and interfaces.
use Rattle.std.specs.Prelude.{ℕ, List, Option, Contains}
use Rattle.std.specs.FinMap.{get}
use Rattle.ospf_types.specs.declared.config.Interface.{Interface}
use Rattle.ospf_types.specs.declared.entry.Vertex.{Vertex}
use Rattle.ospf_types.specs.declared.hop.NextHop.{NextHop}
use Rattle.lsdb.specs.Databases.{Database}
use Rattle.vertex_graph.specs.Up.{Up}
use Rattle.spf.specs.TreeValues.{listed_hops}
use Rattle.area_trees.specs.Areas.{AreaTreeValue, IsAreaTree}

pub record AreaValue : Type 0 where
  pub id : ℕ
  pub lsas : Database
  pub tree : AreaTreeValue

pub record InputsValue : Type 0 where
  pub root : ℕ
  pub areas : List AreaValue
  pub interfaces : List (ℕ × Interface)

-- the distance of a vertex of the area, or `None` if it is not reached
abbrev pub distance_at : AreaValue → Vertex → Option ℕ
distance_at a v = get a.tree.tree.distances v

-- its next hops
abbrev pub hops_at : AreaValue → Vertex → List NextHop
hops_at a v = listed_hops (get a.tree.tree.hops v)

-- the area's tree belongs to its database, for some root and some interfaces
abbrev pub HasTree : AreaValue → Type 0
HasTree a = (root : ℕ) × (ups : List Up) × IsAreaTree root a.lsas ups a.tree

-- each area's tree belongs to its database, and to some interfaces
abbrev pub AreReady : InputsValue → Type 0
AreReady v = (a : AreaValue) → Contains v.areas a → (ups : List Up) × IsAreaTree v.root a.lsas ups a.tree
