-- What holds while a tree is brought from the links before to those after: first the vertices that
-- lose their distance, then the distances after, then the next hops.
use Rattle.std.specs.Prelude.{◌↔◌, ℕ, ◌+◌, ◌≡◌, ◌≢◌, ◌<◌, ◌≤◌, ◌⊎◌, List, Contains, Option, Some, None}
use Rattle.ospf_types.specs.declared.entry.Vertex.{Vertex}
use Rattle.ospf_types.specs.declared.entry.Vertex.TheVariants.{Router}
use Rattle.ospf_types.specs.declared.hop.NextHop.{NextHop}
use Rattle.ospf_types.specs.declared.label.Label.{Label}
use Rattle.ospf_types.specs.Distances.{Links, TakenLink, IsPath, cost_of, IsDistance, IsHop}
use Rattle.spf.specs.Trees.{IsInLimit, IsShortestLink, rank, IsGiven}

-- the links that are there both before and after
abbrev pub Between : Links → Links → Links
Between before after from to cost label = before from to cost label × after from to cost label

-- each removed link is among those gone
pub record AreGone (before after gone : Links) : Type 0 where
  pub went : (from to : Vertex) (cost : ℕ) (label : Label) → before from to cost label → after from to cost label ⊎ gone from to cost label

-- each added link, out of a vertex that has a distance at the start, is among those come
pub record AreCome (before after come : Links) (start : Vertex → Option ℕ) : Type 0 where
  pub came : (from to : Vertex) (cost : ℕ) (label : Label) (d : ℕ) → after from to cost label → start from ≡ Some d → before from to cost label ⊎ come from to cost label

-- Each removed link is among those gone, and each added link among those come. To name more does no
-- harm.
pub record AreLinkUpdates (before after gone come : Links) : Type 0 where
  pub went : (from to : Vertex) (cost : ℕ) (label : Label) → before from to cost label → after from to cost label ⊎ gone from to cost label
  pub came : (from to : Vertex) (cost : ℕ) (label : Label) → after from to cost label → before from to cost label ⊎ come from to cost label

-- a link after from a reached vertex that is not lost, over which the vertex is no farther than the
-- limit
pub record IsSupported (after : Links) (old : Vertex → Option ℕ) (lost : List Vertex) (to : Vertex) (limit : ℕ) : Type 0 where
  pub from : Vertex
  pub cost : ℕ
  pub label : Label
  pub taken : after from to cost label
  pub near : ℕ
  pub tail : old from ≡ Some near
  pub kept : Contains lost from → ⊥
  pub most : near + cost ≤ limit

-- each vertex that was reached, but the root, is lost, suspected or supported
pub record AreHeld (after : Links) (root : ℕ) (old : Vertex → Option ℕ) (lost suspects : List Vertex) : Type 0 where
  pub held : (to : Vertex) (d : ℕ) → old to ≡ Some d → to ≢ Router root → Contains lost to ⊎ (Contains suspects to ⊎ IsSupported after old lost to d)

-- no path leads to a lost vertex at its old distance or below
pub record AreDear (link : Links) (root : ℕ) (has_root : Type 0) (old : Vertex → Option ℕ) (lost : List Vertex) : Type 0 where
  pub dear : (to : Vertex) (d : ℕ) → Contains lost to → old to ≡ Some d → (way : List TakenLink) → IsPath link root has_root way to → d < cost_of way

-- The distances from which those after are sought: none at what is lost, the root's by whether it
-- is a vertex, the others as they were.
pub record IsReset (root : ℕ) (has_root : Type 0) (old : Vertex → Option ℕ) (lost : List Vertex) (distance : Vertex → Option ℕ) : Type 0 where
  pub rooted : has_root → distance (Router root) ≡ Some 0
  pub rootless : (has_root → ⊥) → distance (Router root) ≡ None
  pub blank : (v : Vertex) → v ≢ Router root → Contains lost v → distance v ≡ None
  pub kept : (v : Vertex) → v ≢ Router root → (Contains lost v → ⊥) → distance v ≡ old v

-- one value is set, and the others stay
pub record IsSet (old new : Vertex → Option ℕ) (v : Vertex) (k : ℕ) : Type 0 where
  pub here : new v ≡ Some k
  pub elsewhere : (w : Vertex) → w ≢ v → new w ≡ old w

-- Each moved vertex is reached, and nearer than at the start if it was reached there. The others
-- stay.
pub record AreMoved (start distance : Vertex → Option ℕ) (moved : List Vertex) : Type 0 where
  pub reached : (v : Vertex) → Contains moved v → (e : ℕ) × (distance v ≡ Some e)
  pub nearer : (v : Vertex) (d e : ℕ) → Contains moved v → start v ≡ Some d → distance v ≡ Some e → e < d
  pub same : (v : Vertex) → (Contains moved v → ⊥) → distance v ≡ start v

-- each link from a reached vertex leads to one that is reached or queued at no more than it costs
-- over that link
pub record AreFair (link : Links) (root : ℕ) (distance queue : Vertex → Option ℕ) : Type 0 where
  pub fair : (from to : Vertex) (cost : ℕ) (label : Label) (d : ℕ) → link from to cost label → to ≢ Router root → distance from ≡ Some d
      → IsInLimit (distance to) (d + cost) ⊎ IsInLimit (queue to) (d + cost)

-- what is queued is offered over a link from a reached vertex
pub record IsQueuedOffer (link : Links) (root : ℕ) (distance : Vertex → Option ℕ) (to : Vertex) (k : ℕ) : Type 0 where
  pub from : Vertex
  pub cost : ℕ
  pub label : Label
  pub taken : link from to cost label
  pub near : ℕ
  pub tail : distance from ≡ Some near
  pub other : to ≢ Router root
  pub sum : k ≡ near + cost

-- what is queued has no lesser rank than what was taken
pub record AreForward (distance queue : Vertex → Option ℕ) (taken : List Vertex) : Type 0 where
  pub forward : (done v : Vertex) (d k : ℕ) → Contains taken done → distance done ≡ Some d → queue v ≡ Some k → rank done d ≤ rank v k

-- nothing is queued
abbrev pub IsEmptyQueue : (Vertex → Option ℕ) → Type 0
IsEmptyQueue queue = (v : Vertex) → queue v ≡ None

-- the vertex is queued
abbrev pub IsQueued : (Vertex → Option ℕ) → Vertex → Type 0
IsQueued queue v = (k : ℕ) × (queue v ≡ Some k)

-- each reached vertex but the root is queued, or its next hops are what its least links give it
pub record AreRightOrQueued (link : Links) (root : ℕ) (distance queue : Vertex → Option ℕ) (hops : Vertex → NextHop → Type 0) : Type 0 where
  pub right : (to : Vertex) (d : ℕ) → distance to ≡ Some d → to ≢ Router root → IsQueued queue to ⊎ ((h : NextHop) → hops to h ↔ IsGiven link root distance hops to h)

-- The heads of the removed least links are stale, and so are those that what is lost might have
-- reached over a link after.
pub record AreToldLost (after gone : Links) (root : ℕ) (old : Vertex → Option ℕ) (lost stale : List Vertex) : Type 0 where
  pub went : (from to : Vertex) (cost : ℕ) (label : Label) → to ≢ Router root → IsShortestLink gone old from to cost label → Contains stale to
  pub led : (from to : Vertex) (cost : ℕ) (label : Label) (d e : ℕ) → Contains lost from → after from to cost label → to ≢ Router root → old from ≡ Some d → old to ≡ Some e → d + cost ≤ e → Contains stale to

-- The head of each added least link, or that leads out of a moved vertex, is stale, moved or
-- queued.
pub record AreHeadsQueued (after come : Links) (root : ℕ) (distance queue : Vertex → Option ℕ) (moved stale : List Vertex) : Type 0 where
  pub told : (from to : Vertex) (cost : ℕ) (label : Label) → to ≢ Router root → IsShortestLink after distance from to cost label → come from to cost label ⊎ Contains moved from
      → Contains stale to ⊎ (Contains moved to ⊎ IsQueued queue to)

-- over both links the vertex has the same distance and the same next hops
pub record IsSame (root : ℕ) (A : Links) (has_A : Type 0) (B : Links) (has_B : Type 0) (v : Vertex) : Type 0 where
  pub distance : (d : ℕ) → IsDistance A root has_A v d ↔ IsDistance B root has_B v d
  pub hops : (h : NextHop) → IsHop A root has_A v h ↔ IsHop B root has_B v h

-- the list has each vertex that is not the same over both, and maybe more
pub record HasDiffering (root : ℕ) (A : Links) (has_A : Type 0) (B : Links) (has_B : Type 0) (vertices : List Vertex) : Type 0 where
  pub differing : (v : Vertex) → (IsSame root A has_A B has_B v → ⊥) → Contains vertices v

-- the lists that bound the work: what differs from before to between and from between to after, the
-- heads of the links that were removed or added, and those of the links out of what differs
pub record AreOwed (root : ℕ) (before after gone come : Links) (had_root has_root : Type 0) (first second heads first_out second_out : List Vertex) : Type 0 where
  pub first_differ : HasDiffering root before had_root (Between before after) (had_root × has_root) first
  pub second_differ : HasDiffering root (Between before after) (had_root × has_root) after has_root second
  pub went : (from to : Vertex) (cost : ℕ) (label : Label) → gone from to cost label → Contains heads to
  pub came : (from to : Vertex) (cost : ℕ) (label : Label) → come from to cost label → Contains heads to
  pub out_of_first : (from to : Vertex) (cost : ℕ) (label : Label) → Between before after from to cost label → Contains first from → Contains first_out to
  pub out_of_second : (from to : Vertex) (cost : ℕ) (label : Label) → after from to cost label → Contains second from → Contains second_out to

-- why a vertex is looked at again: it was moved, it is the head of a link that was removed or
-- added, or of a link after out of what is lost, moved or written
pub data IsDue (after gone come : Links) (lost moved written : List Vertex) (to : Vertex) : Type 0 where
  Moved : Contains moved to → IsDue after gone come lost moved written to
  Went : (from : Vertex) (cost : ℕ) (label : Label) → gone from to cost label → IsDue after gone come lost moved written to
  Came : (from : Vertex) (cost : ℕ) (label : Label) → come from to cost label → IsDue after gone come lost moved written to
  OutOfLost : (from : Vertex) (cost : ℕ) (label : Label) → after from to cost label → Contains lost from → IsDue after gone come lost moved written to
  OutOfMoved : (from : Vertex) (cost : ℕ) (label : Label) → after from to cost label → Contains moved from → IsDue after gone come lost moved written to
  OutOfWritten : (from : Vertex) (cost : ℕ) (label : Label) → after from to cost label → Contains written from → IsDue after gone come lost moved written to
