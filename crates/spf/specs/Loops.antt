-- The loops of a repair: losing support, relaxing, updating next hops. Each has its invariant as
-- one record, and another for what one round does.
use Rattle.std.specs.Prelude.{◌↔◌, ℕ, ◌+◌, ◌≡◌, ◌≢◌, ◌<◌, ◌≤◌, ◌⊎◌, List, Contains, Option, Some}
use Rattle.ospf_types.specs.declared.entry.Vertex.{Vertex}
use Rattle.ospf_types.specs.declared.entry.Vertex.TheVariants.{Router}
use Rattle.ospf_types.specs.declared.hop.NextHop.{NextHop}
use Rattle.ospf_types.specs.declared.label.Label.{Label}
use Rattle.ospf_types.specs.Distances.{Links}
use Rattle.vertex_queue.specs.VertexSet.{IsAdded}
use Rattle.spf.specs.Trees.{IsInLimit, AreReal, IsShortestLink, rank, IsGiven}
use Rattle.spf.specs.Repairs.{Between, IsSupported, AreHeld, AreDear, IsSet, AreMoved, AreFair, IsQueuedOffer, AreForward, IsQueued, AreRightOrQueued, AreToldLost, AreHeadsQueued, IsDue}

-- a vertex that has a value, and is not the root
pub record IsReached (root : ℕ) (value : Vertex → Option ℕ) (v : Vertex) : Type 0 where
  pub number : ℕ
  pub at : value v ≡ Some number
  pub other : v ≢ Router root

-- losing support, while suspects are left: what is lost, what is suspected and what is stale
pub record AreLosingSupport (before after gone : Links) (root : ℕ) (had_root has_root : Type 0) (old : Vertex → Option ℕ) (lost suspects stale : List Vertex) : Type 0 where
  pub held : AreHeld after root old lost suspects
  pub dear : AreDear (Between before after) root (had_root × has_root) old lost
  pub told : AreToldLost after gone root old lost stale
  pub reached : (v : Vertex) → Contains lost v → IsReached root old v
  pub suspected : (v : Vertex) → Contains suspects v → IsReached root old v

-- A suspect without support is lost. The heads of its links that it might have supported are stale,
-- and suspected unless they are lost.
pub record IsLost (after : Links) (root : ℕ) (old : Vertex → Option ℕ) (lost more rest suspects stale wider : List Vertex) (v : Vertex) : Type 0 where
  pub unsupported : (d : ℕ) → old v ≡ Some d → IsSupported after old lost v d → ⊥
  pub adds : IsAdded lost more v
  pub waits : (w : Vertex) → Contains rest w → Contains suspects w
  pub widens : (w : Vertex) → Contains stale w → Contains wider w
  pub led : (to : Vertex) (cost : ℕ) (label : Label) (d e : ℕ) → after v to cost label → to ≢ Router root → old v ≡ Some d → old to ≡ Some e → d + cost ≤ e
      → Contains wider to × (Contains more to ⊎ Contains suspects to)
  pub only : (w : Vertex) → Contains suspects w → Contains rest w ⊎ IsReached root old w

-- The opening of the queue of distances: every link into what is lost is offered, and every added
-- link. What is offered is nearer, and a vertex as near becomes stale.
pub record IsQueueOpened (after come : Links) (root : ℕ) (lost : List Vertex) (start queue : Vertex → Option ℕ) (stale : List Vertex) : Type 0 where
  pub into_lost : (from to : Vertex) (cost : ℕ) (label : Label) (d : ℕ) → Contains lost to → to ≢ Router root → after from to cost label → start from ≡ Some d → IsInLimit (queue to) (d + cost)
  pub over_new : (from to : Vertex) (cost : ℕ) (label : Label) (d : ℕ) → come from to cost label → to ≢ Router root → start from ≡ Some d → IsInLimit (start to) (d + cost) ⊎ IsInLimit (queue to) (d + cost)
  pub offered : (to : Vertex) (k : ℕ) → queue to ≡ Some k → IsQueuedOffer after root start to k
  pub less : (v : Vertex) (k d : ℕ) → queue v ≡ Some k → start v ≡ Some d → k < d
  pub tells : (from to : Vertex) (cost : ℕ) (label : Label) → come from to cost label → to ≢ Router root → IsShortestLink after start from to cost label → Contains stale to

-- relaxing, while distances are queued
pub record AreRelaxing (after come : Links) (root : ℕ) (has_root : Type 0) (start distance queue : Vertex → Option ℕ) (moved stale : List Vertex) : Type 0 where
  pub rooted : has_root → distance (Router root) ≡ Some 0
  pub real : AreReal after root has_root distance
  pub queued_real : AreReal after root has_root queue
  pub fair : AreFair after root distance queue
  pub less : (v : Vertex) (k d : ℕ) → queue v ≡ Some k → distance v ≡ Some d → k < d
  pub other : (v : Vertex) (k : ℕ) → queue v ≡ Some k → v ≢ Router root
  pub forward : AreForward distance queue moved
  pub apart : (v : Vertex) (k : ℕ) → Contains moved v → queue v ≡ Some k → ⊥
  pub ended : AreMoved start distance moved
  pub moved_other : (v : Vertex) → Contains moved v → v ≢ Router root
  pub told : AreHeadsQueued after come root distance queue moved stale

-- what a link out of the vertex that is taken puts into the queue: only what is nearer over it
pub record IsLinkQueued (link : Links) (root : ℕ) (distance : Vertex → Option ℕ) (from : Vertex) (k : ℕ) (to : Vertex) (e : ℕ) : Type 0 where
  pub cost : ℕ
  pub label : Label
  pub taken : link from to cost label
  pub other : to ≢ Router root
  pub sum : e ≡ k + cost
  pub nearer : (d : ℕ) → distance to ≡ Some d → e < d

-- The vertex of least rank is taken from the queue and gets its distance. Each link out of it is
-- offered, and tells its head if that is as near over it.
pub record IsVertexPopped (link : Links) (root : ℕ) (distance queue new more : Vertex → Option ℕ) (stale wider : List Vertex) (v : Vertex) (k : ℕ) : Type 0 where
  pub waits : queue v ≡ Some k
  pub least : (w : Vertex) (e : ℕ) → queue w ≡ Some e → rank v k ≤ rank w e
  pub set : IsSet distance new v k
  pub keeps : (w : Vertex) (e : ℕ) → w ≢ v → queue w ≡ Some e → IsInLimit (more w) e
  pub put : (w : Vertex) (e : ℕ) → more w ≡ Some e → ((w ≢ v) × (queue w ≡ Some e)) ⊎ IsLinkQueued link root new v k w e
  pub offered : (to : Vertex) (cost : ℕ) (label : Label) → link v to cost label → to ≢ Router root → IsInLimit (new to) (k + cost) ⊎ IsInLimit (more to) (k + cost)
  pub widens : (w : Vertex) → Contains stale w → Contains wider w
  pub tells : (to : Vertex) (cost : ℕ) (label : Label) → link v to cost label → to ≢ Router root → new to ≡ Some (k + cost) → Contains wider to

-- updating next hops, while vertices are queued: the sets at the start and now
pub record AreUpdatingNextHops (link : Links) (root : ℕ) (distance queue : Vertex → Option ℕ) (sets now : Vertex → NextHop → Type 0) (taken written : List Vertex) : Type 0 where
  pub right : AreRightOrQueued link root distance queue now
  pub forward : AreForward distance queue taken
  pub queued : (v : Vertex) (k : ℕ) → queue v ≡ Some k → (distance v ≡ Some k) × (v ≢ Router root)
  pub apart : (v : Vertex) (k : ℕ) → Contains taken v → queue v ≡ Some k → ⊥
  pub reached : (v : Vertex) → Contains taken v → IsReached root distance v
  pub unwritten : (v : Vertex) → (Contains written v → ⊥) → (h : NextHop) → now v h ↔ sets v h
  pub within : (v : Vertex) → Contains written v → Contains taken v
  pub changed : (v : Vertex) → Contains written v → ((h : NextHop) → now v h ↔ sets v h) → ⊥

-- what a least link out of the vertex that is taken puts into the queue
pub record IsPutAgain (link : Links) (root : ℕ) (distance : Vertex → Option ℕ) (from to : Vertex) (e : ℕ) : Type 0 where
  pub cost : ℕ
  pub label : Label
  pub least : IsShortestLink link distance from to cost label
  pub other : to ≢ Router root
  pub at : distance to ≡ Some e

-- The vertex of least rank is taken from the queue, and its set becomes what its least links give.
-- If that is another set, it is written, and the heads of the least links out of it are queued.
pub record IsUpdated (link : Links) (root : ℕ) (distance queue more : Vertex → Option ℕ) (now new : Vertex → NextHop → Type 0) (written wider : List Vertex) (v : Vertex) (k : ℕ) : Type 0 where
  pub waits : queue v ≡ Some k
  pub least : (w : Vertex) (e : ℕ) → queue w ≡ Some e → rank v k ≤ rank w e
  pub union : (h : NextHop) → new v h ↔ IsGiven link root distance now v h
  pub elsewhere : (w : Vertex) → w ≢ v → (h : NextHop) → new w h ↔ now w h
  pub keeps : (w : Vertex) → w ≢ v → IsQueued queue w → IsQueued more w
  pub put : (w : Vertex) (e : ℕ) → more w ≡ Some e → ((w ≢ v) × (queue w ≡ Some e)) ⊎ (IsPutAgain link root distance v w e × Contains wider v)
  pub heads : (Contains wider v × ((to : Vertex) (cost : ℕ) (label : Label) → to ≢ Router root → IsShortestLink link distance v to cost label → IsQueued more to)) ⊎ ((h : NextHop) → new v h ↔ now v h)
  pub widens : (w : Vertex) → Contains written w → Contains wider w
  pub writes : (w : Vertex) → Contains wider w → Contains written w ⊎ ((w ≡ v) × (((h : NextHop) → new v h ↔ now v h) → ⊥))

-- each vertex of the list is due
pub record AreVerticesDue (after gone come : Links) (lost moved written vertices : List Vertex) : Type 0 where
  pub due : (v : Vertex) → Contains vertices v → IsDue after gone come lost moved written v

-- and so is each that is queued
pub record AreQueuedDue (after gone come : Links) (lost moved written : List Vertex) (queue : Vertex → Option ℕ) : Type 0 where
  pub due : (v : Vertex) (k : ℕ) → queue v ≡ Some k → IsDue after gone come lost moved written v
