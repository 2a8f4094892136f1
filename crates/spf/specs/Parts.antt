-- The start and the result of each part of a repair (RFC 2328, 16.1). Losing support gives the
-- vertices that lose their distance, relaxing gives the distances after, and updating gives the
-- next hops after.
use Rattle.std.specs.Prelude.{◌↔◌, ◌⊎◌, ℕ, ◌+◌, ◌≡◌, ◌≢◌, List, [], length, Contains, Option, Some, None}
use Rattle.std.specs.FinMap.{get}
use Rattle.ospf_types.specs.declared.entry.Vertex.{Vertex}
use Rattle.ospf_types.specs.declared.entry.Vertex.TheVariants.{Router}
use Rattle.ospf_types.specs.declared.hop.NextHop.{NextHop}
use Rattle.ospf_types.specs.declared.label.Label.{Label}
use Rattle.ospf_types.specs.Distances.{Links}
use Rattle.vertex_graph.specs.GraphLink.{GraphLink}
use Rattle.vertex_graph.specs.Graphs.{GraphValue, LinksOf, HasRoot}
use Rattle.vertex_queue.specs.Maps.{DistanceMap, HopMap}
use Rattle.vertex_queue.specs.VertexSet.{HasNoDoubles}
use Rattle.spf.specs.declared.lose_support.Search.{Search}
use Rattle.spf.specs.declared.relax.Pending.{Pending}
use Rattle.spf.specs.declared.update_next_hops.Relaxed.{Relaxed}
use Rattle.spf.specs.Changes.{Among, Earlier}
use Rattle.spf.specs.Loops.{AreLosingSupport, AreRelaxing, IsReached}
use Rattle.spf.specs.Repairs.{AreHeld, IsReset}
use Rattle.spf.specs.Trees.{AreLinks, AreDistances, IsGiven, IsTree, IsInLimit}

-- the next hops of each vertex
abbrev pub hops_of : HopMap → Vertex → NextHop → Type 0
hops_of m v h = (hops : List NextHop) × (get m v ≡ Some hops) × Contains hops h

-- nothing is queued
abbrev pub nothing_queued : Vertex → Option ℕ
nothing_queued v = None

-- the distances have the root as a vertex
abbrev pub HadRoot : ℕ → (Vertex → Option ℕ) → Type 0
HadRoot root old = old (Router root) ≡ Some 0

-- the links before the changes that are listed
abbrev pub LinksBefore : GraphValue → List GraphLink → List GraphLink → Links
LinksBefore g gone come = Earlier (LinksOf g) gone come

-- each of these is a link of the graph
abbrev pub AreLinksOfGraph : GraphValue → List GraphLink → Type 0
AreLinksOfGraph g links = (l : GraphLink) → Contains links l → LinksOf g l.from l.to l.cost l.label

-- The distances are right for the links before, and the added links are links after.
pub record IsRightBefore (g : GraphValue) (gone come : List GraphLink) (old : Vertex → Option ℕ) : Type 0 where
  pub links : AreLinks (LinksBefore g gone come) g.root (HadRoot g.root old)
  pub distances : AreDistances (LinksBefore g gone come) g.root (HadRoot g.root old) old
  pub came : (l : GraphLink) → Contains come l → LinksOf g l.from l.to l.cost l.label

-- the distances are right for the links before these were removed and added
abbrev pub AreBefore : GraphValue → List GraphLink → List GraphLink → DistanceMap → Type 0
AreBefore g gone come distances = IsRightBefore g gone come (get distances)

-- ---- who loses its distance

-- why a vertex is stale: it is the head of a removed link, or of a link out of a vertex that is
-- lost
abbrev pub IsStaleBy : GraphValue → List GraphLink → List Vertex → Vertex → Type 0
IsStaleBy g gone lost to =
    ((from : Vertex) × (cost : ℕ) × (label : Label) × Among gone from to cost label)
    ⊎ ((from : Vertex) × (cost : ℕ) × (label : Label) × LinksOf g from to cost label × Contains lost from)

-- what losing support leaves
pub record AreLost (g : GraphValue) (gone come : List GraphLink) (old : Vertex → Option ℕ) (lost stale : List Vertex) : Type 0 where
  pub losing_support : AreLosingSupport (LinksBefore g gone come) (LinksOf g) (Among gone) g.root (HadRoot g.root old) (HasRoot g) old lost [] stale
  pub why : (v : Vertex) → Contains stale v → IsStaleBy g gone lost v

-- what the links that were removed and added take from these distances
abbrev pub AreLostBy : GraphValue → List GraphLink → List GraphLink → DistanceMap → Search → Type 0
AreLostBy g gone come distances search = AreLost g gone come (get distances) search.lost search.pending.stale

-- ---- the distances after

-- A vertex from which the search starts, at this distance: the root, or one that was reached and is
-- not lost. It is what `Starts` of the proofs says.
abbrev pub StartsAt : ℕ → Type 0 → (Vertex → Option ℕ) → List Vertex → Vertex → ℕ → Type 0
StartsAt root has_root old lost v d = ((v ≡ Router root) × has_root × (d ≡ 0)) ⊎ ((v ≢ Router root) × (Contains lost v → ⊥) × (old v ≡ Some d))

-- What relaxing starts from: what is not lost is held by links after, and each link from where the
-- search starts was added, leads to what is lost, or leads no nearer.
pub record AreStarted (after come : Links) (root : ℕ) (has_root : Type 0) (old : Vertex → Option ℕ) (lost : List Vertex) : Type 0 where
  pub held : AreHeld after root old lost []
  pub reached : (v : Vertex) → Contains lost v → IsReached root old v
  pub fair : (from to : Vertex) (cost : ℕ) (label : Label) (d : ℕ) → after from to cost label → to ≢ Router root → StartsAt root has_root old lost from d
      → come from to cost label ⊎ (Contains lost to ⊎ IsInLimit (old to) (d + cost))

-- relaxing starts from these distances, without what is lost
abbrev pub AreReadyToRelax : GraphValue → List GraphLink → DistanceMap → List Vertex → Type 0
AreReadyToRelax g come distances lost = AreStarted (LinksOf g) (Among come) g.root (HasRoot g) (get distances) lost

-- the distances from which those after are sought in the graph
abbrev pub AreReset : GraphValue → DistanceMap → List Vertex → DistanceMap → Type 0
AreReset g old lost new = IsReset g.root (HasRoot g) (get old) lost (get new)

-- why a vertex is stale once distances are relaxed: it was before, it is the head of an added link,
-- or of a link out of a vertex that moved
abbrev pub IsStaleNow : GraphValue → List GraphLink → List Vertex → List Vertex → Vertex → Type 0
IsStaleNow g come stale moved to =
    Contains stale to
    ⊎ (((from : Vertex) × (cost : ℕ) × (label : Label) × Among come from to cost label)
    ⊎ ((from : Vertex) × (cost : ℕ) × (label : Label) × LinksOf g from to cost label × Contains moved from))

-- what relaxing leaves: the distances after, reached from those at its start, where what was lost
-- is taken out
pub record IsRelaxedTo (g : GraphValue) (come : List GraphLink) (old distance : Vertex → Option ℕ) (lost stale wider moved : List Vertex) : Type 0 where
  pub start : DistanceMap
  pub reset : IsReset g.root (HasRoot g) old lost (get start)
  pub relaxing : AreRelaxing (LinksOf g) (Among come) g.root (HasRoot g) (get start) distance nothing_queued moved wider
  pub apart : HasNoDoubles moved
  pub widens : (v : Vertex) → Contains stale v → Contains wider v
  pub why : (v : Vertex) → Contains wider v → IsStaleNow g come stale moved v

-- relaxing leads from the old distances to the new ones, with what is lost, what waits before and
-- after, and what it moved
abbrev pub IsRelaxed : GraphValue → List GraphLink → DistanceMap → DistanceMap → List Vertex → Pending → Pending → List Vertex → Type 0
IsRelaxed g come old new lost before after moved = IsRelaxedTo g come (get old) (get new) lost before.stale after.stale moved

-- ---- the next hops after

-- The start of the update of next hops: the distances are right. A vertex that is neither moved nor
-- stale has the next hops that its least links give it. Only a lost vertex may have next hops
-- though it is not reached.
pub record AreUnsettled (g : GraphValue) (distance : Vertex → Option ℕ) (hops : Vertex → NextHop → Type 0) (lost moved stale : List Vertex) : Type 0 where
  pub distances : AreDistances (LinksOf g) g.root (HasRoot g) distance
  pub right : (to : Vertex) (d : ℕ) → distance to ≡ Some d → to ≢ Router g.root
      → (Contains moved to ⊎ Contains stale to) ⊎ ((h : NextHop) → hops to h ↔ IsGiven (LinksOf g) g.root distance hops to h)
  pub root : (h : NextHop) → hops (Router g.root) h → ⊥
  pub blank : (v : Vertex) (h : NextHop) → distance v ≡ None → hops v h → Contains lost v

-- the update starts from what relaxing left, these next hops, and what is stale
abbrev pub AreReadyToUpdate : Relaxed → HopMap → List Vertex → Type 0
AreReadyToUpdate r hops stale = AreUnsettled r.graph.now (get r.distances.now) (hops_of hops) r.lost.now r.moved.now stale

-- why a vertex is taken in the update of next hops: it moved, it is stale, or it is the head of a
-- link out of one whose next hops were written
abbrev pub IsTakenBy : GraphValue → List Vertex → List Vertex → List Vertex → Vertex → Type 0
IsTakenBy g moved stale written to =
    Contains moved to
    ⊎ (Contains stale to
    ⊎ ((from : Vertex) × (cost : ℕ) × (label : Label) × LinksOf g from to cost label × Contains written from))

-- The result of the update of next hops: the tree. What was lost for good is blank and counts as
-- written; the others were written where they differ from before.
pub record AreSettled (g : GraphValue) (distance : Vertex → Option ℕ) (before now : Vertex → NextHop → Type 0) (lost moved stale written : List Vertex) (taken_count : ℕ) : Type 0 where
  pub tree : IsTree (LinksOf g) g.root (HasRoot g) distance now
  pub taken : List Vertex
  pub count : length taken ≡ taken_count
  pub taken_apart : HasNoDoubles taken
  pub why : (v : Vertex) → Contains taken v → IsTakenBy g moved stale written v
  pub taken_reached : (v : Vertex) → Contains taken v → IsReached g.root distance v
  pub moved_taken : (v : Vertex) → IsReached g.root distance v → Contains moved v → Contains taken v
  pub written_apart : HasNoDoubles written
  pub written_for : (v : Vertex) → Contains written v
      → (Contains lost v × (distance v ≡ None))
      ⊎ (Contains taken v × (((h : NextHop) → now v h ↔ before v h) → ⊥))
  pub lost_written : (v : Vertex) → Contains lost v → distance v ≡ None → Contains written v
  pub unwritten : (v : Vertex) → (Contains written v → ⊥) → (h : NextHop) → now v h ↔ before v h

-- the update leads from the old next hops to the new ones, where this many vertices were taken and
-- these were written
abbrev pub AreSettledIn : Relaxed → HopMap → HopMap → List Vertex → List Vertex → ℕ → Type 0
AreSettledIn r old new stale written taken_count =
    AreSettled r.graph.now (get r.distances.now) (hops_of old) (hops_of new) r.lost.now r.moved.now stale written taken_count
