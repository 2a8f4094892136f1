-- A shortest-path tree as its callers see it, and what a repair promises of it.
use Rattle.std.specs.Prelude.{◌↔◌, ◌⊎◌, ℕ, ◌+◌, ◌*◌, ◌≡◌, ◌≢◌, ◌≤◌, Bool, false, true, List, [], ◌∷◌, length, Contains, Option, Some, None}
use Rattle.std.specs.FinMap.{get, empty}
use Rattle.std.specs.List.Sorted.{IsStrictlySortedBy}
use Rattle.ospf_types.specs.declared.entry.Vertex.{Vertex}
use Rattle.ospf_types.specs.declared.entry.Vertex.TheVariants.{Router}
use Rattle.ospf_types.specs.declared.hop.NextHop.{NextHop}
use Rattle.ospf_types.specs.Vertices.{vertex_cmp}
use Rattle.vertex_graph.specs.GraphLink.{GraphLink}
use Rattle.vertex_graph.specs.Graphs.{GraphValue, LinksOf, HasRoot}
use Rattle.vertex_queue.specs.Differing.{IsNearer}
use Rattle.vertex_queue.specs.VertexSet.{HasNoDoubles}
use Rattle.vertex_queue.specs.Counts.{no_work}
use Rattle.vertex_queue.specs.Maps.{DistanceMap, HopMap}
use Rattle.vertex_queue.specs.declared.touched.Touched.{Touched}
use Rattle.spf.specs.declared.lose_support.Search.{Search}
use Rattle.spf.specs.declared.workspace.Workspace.{Workspace}
use Rattle.spf.specs.Changes.{Among}
use Rattle.spf.specs.Parts.{HadRoot, LinksBefore, AreLost, hops_of}
use Rattle.spf.specs.Repairs.{AreOwed}
use Rattle.spf.specs.Trees.{AreLinks, IsTree}

pub record TreeValue : Type 0 where
  pub distances : DistanceMap  -- of what is reached
  pub hops : HopMap
  pub changed : List Vertex
  pub spent : Bool

-- the next hops of a vertex, as a list
abbrev pub listed_hops : Option (List NextHop) → List NextHop
listed_hops None = []
listed_hops (Some hops) = hops

-- The tree belongs to the graph: each distance and each next hop is the one that the definitions
-- give.
pub record IsTreeOf (g : GraphValue) (t : TreeValue) : Type 0 where
  pub fresh : t.spent ≡ false
  pub tree : IsTree (LinksOf g) g.root (HasRoot g) (get t.distances) (hops_of t.hops)

-- The tree is right for the links before the changes that are listed, and the added links are links
-- of the graph.
pub record IsTreeBefore (g : GraphValue) (gone come : List GraphLink) (t : TreeValue) : Type 0 where
  pub fresh : t.spent ≡ false
  pub links : AreLinks (LinksBefore g gone come) g.root (HadRoot g.root (get t.distances))
  pub tree : IsTree (LinksBefore g gone come) g.root (HadRoot g.root (get t.distances)) (get t.distances) (hops_of t.hops)
  pub came : (l : GraphLink) → Contains come l → LinksOf g l.from l.to l.cost l.label

-- A repair is begun: the tree is right before the changes, and what they take is known.
pub record IsBegun (g : GraphValue) (gone come : List GraphLink) (t : TreeValue) (lost stale : List Vertex) : Type 0 where
  pub before : IsTreeBefore g gone come t
  pub losses : AreLost g gone come (get t.distances) lost stale

-- a repair is begun for some removed links
abbrev pub IsBegunWith : GraphValue → List GraphLink → TreeValue → Search → Type 0
IsBegunWith g come t search = (gone : List GraphLink) × IsBegun g gone come t search.lost search.pending.stale

-- the vertex has another distance or other next hops
abbrev pub Differs : TreeValue → TreeValue → Vertex → Type 0
Differs old new v = ((get new.distances v ≡ get old.distances v) × ((h : NextHop) → hops_of new.hops v h ↔ hops_of old.hops v h)) → ⊥

-- why a vertex differs: it is the root or lost its distance, and has another than before; it is
-- nearer; or its next hops were written
abbrev pub IsVertexChangedBy : ℕ → TreeValue → TreeValue → List Vertex → List Vertex → List Vertex → Vertex → Type 0
IsVertexChangedBy root old new lost moved written v =
    (Contains (Router root ∷ lost) v × (get new.distances v ≢ get old.distances v))
    ⊎ (IsNearer moved lost v ⊎ Contains written v)

-- exactly the vertices that differ, ascending without duplicates
pub record AreChanged (old new : TreeValue) (changed : List Vertex) : Type 0 where
  pub in_order : IsStrictlySortedBy vertex_cmp changed
  pub exact : (v : Vertex) → Contains changed v ↔ Differs old new v

-- each vertex that is not among the changed ones has its distance and its next hops still
abbrev pub AreOthersKept : TreeValue → TreeValue → Type 0
AreOthersKept old new = (v : Vertex) → (Contains new.changed v → ⊥)
    → (get new.distances v ≡ get old.distances v) × (listed_hops (get new.hops v) ≡ listed_hops (get old.hops v))

-- The work is bounded by what differs: for all lists of the vertices that differ, of the heads of
-- the links that differ, and of the heads of the links out of the vertices that differ.
pub record IsBounded (g : GraphValue) (gone come : List GraphLink) (old : TreeValue) (taken hop_sets : ℕ) : Type 0 where
  pub taken_most : (first second heads first_out second_out : List Vertex)
      → AreOwed g.root (LinksBefore g gone come) (LinksOf g) (Among gone) (Among come) (HadRoot g.root (get old.distances)) (HasRoot g) first second heads first_out second_out
      → taken ≤ 2 * (length first + length second) + (length heads + (length first_out + length second_out))
  pub sets_most : (first second heads first_out second_out : List Vertex)
      → AreOwed g.root (LinksBefore g gone come) (LinksOf g) (Among gone) (Among come) (HadRoot g.root (get old.distances)) (HasRoot g) first second heads first_out second_out
      → hop_sets ≤ length first + length second

-- the work of a repair, counted, is bounded by what differs
abbrev pub IsBoundedBy : GraphValue → List GraphLink → List GraphLink → TreeValue → Touched → Type 0
IsBoundedBy g gone come old touched = IsBounded g gone come old touched.taken touched.hop_sets

-- there was no work, unless some link was removed or added
abbrev pub IsIdleUnless : List GraphLink → List GraphLink → Touched → Type 0
IsIdleUnless gone come touched = gone ≡ [] → come ≡ [] → touched ≡ no_work

-- a vertex other than the root that is reached
abbrev pub IsReachedIn : GraphValue → TreeValue → Vertex → Type 0
IsReachedIn g t v = ((d : ℕ) × (get t.distances v ≡ Some d)) × (v ≢ Router g.root)

-- the vertex has other next hops than before
abbrev pub HasOtherHops : TreeValue → TreeValue → Vertex → Type 0
HasOtherHops old new v = ((h : NextHop) → hops_of new.hops v h ↔ hops_of old.hops v h) → ⊥

-- its next hops are written: they are others than before, or the vertex is reached no more
abbrev pub IsHopSetWritten : GraphValue → TreeValue → TreeValue → Vertex → Type 0
IsHopSetWritten g old new v = HasOtherHops old new v ⊎ (IsReachedIn g old v × (get new.distances v ≡ None))

-- And it is what differs.
-- The number taken is at least the number of vertices reached at another distance than before, plus
-- the number of vertices that are reached and differ. It is at most twice the number of vertices
-- reached.
-- A set is written for each vertex that has other next hops or is reached no more.
pub record IsWorkDone (g : GraphValue) (old new : TreeValue) (taken hop_sets : ℕ) : Type 0 where
  pub taken_least : (moved differing : List Vertex) → HasNoDoubles moved → HasNoDoubles differing
      → ((v : Vertex) → Contains moved v → IsReachedIn g new v × (get new.distances v ≢ get old.distances v))
      → ((v : Vertex) → Contains differing v → IsReachedIn g new v × Differs old new v) → length moved + length differing ≤ taken
  pub taken_twice_most : (reached : List Vertex) → ((v : Vertex) → IsReachedIn g new v → Contains reached v) → taken ≤ 2 * length reached
  pub written : List Vertex
  pub written_apart : HasNoDoubles written
  pub written_exact : (v : Vertex) → Contains written v ↔ IsHopSetWritten g old new v
  pub sets_are : hop_sets ≡ length written

-- the work of a repair, counted
abbrev pub IsRepairWork : GraphValue → TreeValue → TreeValue → Touched → Type 0
IsRepairWork g old new touched = IsWorkDone g old new touched.taken touched.hop_sets

-- The work of building a tree: each vertex that is reached, except the root, is taken twice, once
-- for its distance and once for its next hops. One set is written for each.
pub record IsWorkForAll (g : GraphValue) (t : TreeValue) (taken hop_sets : ℕ) : Type 0 where
  pub reached : List Vertex
  pub reached_apart : HasNoDoubles reached
  pub reached_exact : (v : Vertex) → Contains reached v ↔ IsReachedIn g t v
  pub taken_are : taken ≡ 2 * length reached
  pub sets_are : hop_sets ≡ length reached

-- the work of building a tree, counted
abbrev pub IsBuildWork : GraphValue → TreeValue → Touched → Type 0
IsBuildWork g t touched = IsWorkForAll g t touched.taken touched.hop_sets

-- The result of a repair that is begun, with the moved and the written vertices: the tree, its
-- work, and why vertices differ.
pub record IsRepairCarriedOut (g : GraphValue) (come : List GraphLink) (old new : TreeValue) (lost stale moved written : List Vertex) (taken hop_sets : ℕ) : Type 0 where
  pub tree : IsTreeOf g new
  pub bounded : (gone : List GraphLink) → IsBegun g gone come old lost stale → IsBounded g gone come old taken hop_sets
  pub idle : IsBegun g [] come old lost stale → come ≡ [] → (taken ≡ 0) × (hop_sets ≡ 0)
  pub work : IsWorkDone g old new taken hop_sets
  pub differ : (v : Vertex) → IsVertexChangedBy g.root old new lost moved written v ↔ Differs old new v

-- what a repair that is begun comes to, by what is found before and after
abbrev pub ComesTo : GraphValue → List GraphLink → TreeValue → TreeValue → Workspace → Workspace → Touched → Type 0
ComesTo g come old new before after touched =
    IsRepairCarriedOut g come old new before.search.lost before.search.pending.stale after.moved after.writer.written touched.taken touched.hop_sets

-- the tree of these distances and next hops
abbrev pub tree_of : DistanceMap → HopMap → TreeValue
tree_of distances hops = record { distances = distances; hops = hops; changed = []; spent = false }

-- the tree of no links
abbrev pub blank_value : TreeValue
blank_value = record { distances = empty; hops = empty; changed = []; spent = false }

-- a tree that answers nothing, since a repair ran out of memory
abbrev pub spent_value : TreeValue
spent_value = record { distances = empty; hops = empty; changed = []; spent = true }

-- the tree with no vertex that changed
abbrev pub at_rest : TreeValue → TreeValue
at_rest t = record { distances = t.distances; hops = t.hops; changed = []; spent = t.spent }
