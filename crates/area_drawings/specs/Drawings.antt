-- The picture of an area.
use Rattle.std.specs.Prelude.{◌↔◌, ℕ, ◌≡◌, ◌≢◌, ◌<◌, List, map, Option, None, Some, IsTrue, bit_and}
use Rattle.std.specs.FinMap.{get}
use Rattle.std.specs.List.{All, AllPairs}
use Rattle.std.specs.List.Sorted.{IsStrictlySortedBy}
use Rattle.ospf_types.specs.declared.entry.Vertex.{Vertex}
use Rattle.ospf_types.specs.Intra.{B, E}
use Rattle.ospf_types.specs.Lsa.{Body}
use Rattle.lsa_codec.specs.Readers.{flags_of}
use Rattle.lsdb.specs.Databases.{Database}
use Rattle.spf.specs.TreeValues.{listed_hops}
use Rattle.area_trees.specs.Areas.{AreaTreeValue, IsStanding}
use Rattle.area_drawings.specs.declared.drawing.Drawing.{Drawing}
use Rattle.area_drawings.specs.declared.drawing.DrawnVertex.{DrawnVertex}
use Rattle.area_drawings.specs.declared.drawing.Roles.{Roles}
use Rattle.area_drawings.specs.declared.columns.Column.{Column}
use Rattle.area_drawings.specs.declared.reached.ReachedVertex.{ReachedVertex}
use Rattle.area_drawings.specs.declared.stands.Stand.{Stand}
use Rattle.area_drawings.specs.Columns.{AreColumnsOf, column_cmp}
use Rattle.area_drawings.specs.Links.{AreLinksBetween}
use Rattle.area_drawings.specs.Places.{AreInPlaces, HasRows, IsInColumn}
use Rattle.area_drawings.specs.Reaching.{AreReached}

-- ---- roles

abbrev pub flags_or_none : Option ℕ → ℕ
flags_or_none None = 0
flags_or_none (Some flags) = flags

-- the bits of a router-LSA (A.4.2); 0 for a network-LSA or without an LSA
abbrev pub bits_of_lsa : Option Body → ℕ
bits_of_lsa None = 0
bits_of_lsa (Some body) = flags_or_none (flags_of body)

-- the bits of the LSA that describes the vertex
abbrev pub HasFlags : Database → Vertex → ℕ → Type 0
HasFlags d v flags = (body : Option Body) × IsStanding d v body × (flags ≡ bits_of_lsa body)

-- the roles that the bits say
abbrev pub AreRoles : ℕ → Roles → Type 0
AreRoles flags roles = (IsTrue roles.border ↔ (0 < bit_and flags B)) × (IsTrue roles.boundary ↔ (0 < bit_and flags E))

-- ---- vertices

-- a vertex in its place, without its roles and next hops
abbrev pub stand_of : DrawnVertex → Stand
stand_of v = record { reached = record { vertex = v.vertex; distance = v.distance }; place = v.place }

abbrev pub stands_of : Drawing → List Stand
stands_of drawing = map stand_of drawing.vertices

abbrev pub reached_of : List Stand → List ReachedVertex
reached_of stands = map (λ s. s.reached) stands

-- its next hops come from the tree, and its roles from its router-LSA
pub record IsTreeDrawn (d : Database) (t : AreaTreeValue) (v : DrawnVertex) : Type 0 where
  pub hops : v.hops ≡ listed_hops (get t.tree.hops v.vertex)
  pub roles : (flags : ℕ) × HasFlags d v.vertex flags × AreRoles flags v.roles

-- ---- columns

-- The columns are one for the networks, and one for the routers, at each distance that some have,
-- in this order. Their distances are these, and each vertex is in its column.
pub record AreDrawnColumns (distances : List ℕ) (stands : List Stand) : Type 0 where
  pub columns : List Column
  pub in_order : IsStrictlySortedBy column_cmp columns
  pub exact : AreColumnsOf (reached_of stands) columns
  pub told : distances ≡ map (λ c. c.distance) columns
  pub each : All (IsInColumn columns) stands

-- ---- the picture

pub record IsDrawingOf (root : ℕ) (d : Database) (t : AreaTreeValue) (drawing : Drawing) : Type 0 where
  pub root_is : drawing.root ≡ root
  -- exactly the vertices that are reached, without duplicates
  pub reached : AreReached d t (reached_of (stands_of drawing))
  pub told : All (IsTreeDrawn d t) drawing.vertices
  pub columns : AreDrawnColumns drawing.columns (stands_of drawing)
  -- from row to row, and in a row from left to right
  pub places : AreInPlaces (stands_of drawing)
  pub rows : HasRows drawing.rows (stands_of drawing)
  -- exactly the links between them, without duplicates; links that differ only in their label are
  -- drawn as one
  pub links : AreLinksBetween t.area.graph (stands_of drawing) drawing.links
  pub each_once : AllPairs (λ k l. k ≢ l) drawing.links
