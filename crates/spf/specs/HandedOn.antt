-- The steps that update next hops: what a link gives, what is put into the queue, what is written
-- at one vertex.
use Rattle.std.specs.Prelude.{◌↔◌, ◌⊎◌, ℕ, ◌+◌, ◌≡◌, ◌≢◌, ◌++◌, ◌∷◌, List, [], length, Contains, Option, Some, None}
use Rattle.ospf_types.specs.declared.entry.Vertex.{Vertex}
use Rattle.ospf_types.specs.declared.entry.Vertex.TheVariants.{Router}
use Rattle.ospf_types.specs.declared.hop.NextHop.{NextHop}
use Rattle.ospf_types.specs.declared.label.Label.{Label}
use Rattle.ospf_types.specs.Distances.{Links}
use Rattle.std.specs.FinMap.{get}
use Rattle.vertex_graph.specs.Graphs.{GraphValue, LinksOf}
use Rattle.vertex_graph.specs.GraphLink.{GraphLink}
use Rattle.vertex_queue.specs.Queues.{Queue}
use Rattle.vertex_queue.specs.VertexSet.{HasNoDoubles}
use Rattle.vertex_queue.specs.Maps.{DistanceMap, HopMap}
use Rattle.spf.specs.Loops.{IsReached, AreUpdatingNextHops}
use Rattle.spf.specs.Parts.{IsTakenBy, hops_of}
use Rattle.spf.specs.Repairs.{IsQueued}
use Rattle.spf.specs.TreeValues.{listed_hops}
use Rattle.spf.specs.Trees.{IsShortestLink, IsGiven, GivesHop, HandsOn}

-- some element of the list has the property
abbrev pub IsOfSome : {A B : Type 0} → List A → (A → B → Type 0) → B → Type 0
IsOfSome {A} xs P y = (x : A) × Contains xs x × P x y

-- ---- what is given

-- the head of the link is as far as its tail and the link together
pub record IsLeastLink (distance : Vertex → Option ℕ) (l : GraphLink) : Type 0 where
  pub near : ℕ
  pub tail : distance l.from ≡ Some near
  pub head : distance l.to ≡ Some (near + l.cost)

-- the vertex is at this distance
abbrev pub HasDistance : DistanceMap → Vertex → ℕ → Type 0
HasDistance distances v d = get distances v ≡ Some d

-- what the link gives its head, if it is a least link
abbrev pub IsGivenOver : ℕ → (Vertex → Option ℕ) → (Vertex → NextHop → Type 0) → GraphLink → NextHop → Type 0
IsGivenOver root distance hops l h = IsLeastLink distance l × GivesHop root hops l.from l.to l.label h

-- what a link with this label passes on of a next hop
abbrev pub IsHandedOn : Label → NextHop → NextHop → Type 0
IsHandedOn label g h = HandsOn g label h

-- the set has what it had, and what is given
pub record IsUnion (old new : List NextHop) (Given : NextHop → Type 0) : Type 0 where
  pub union : (h : NextHop) → Contains new h ↔ (Contains old h ⊎ Given h)

-- the set has what it had, and what the link gives its head
abbrev pub IsUnionOver : ℕ → DistanceMap → HopMap → GraphLink → List NextHop → List NextHop → Type 0
IsUnionOver root distances hops l old new = IsUnion old new (IsGivenOver root (get distances) (hops_of hops) l)

-- the set has just what the least links of the graph into the vertex give it
abbrev pub AreGiven : GraphValue → DistanceMap → HopMap → Vertex → List NextHop → Type 0
AreGiven g distances hops v set =
    (h : NextHop) → Contains set h ↔ IsGiven (LinksOf g) g.root (get distances) (hops_of hops) v h

-- both are the same next hops; no set is as an empty one
abbrev pub HaveSameHops : Option (List NextHop) → List NextHop → Type 0
HaveSameHops before after = (h : NextHop) → Contains (listed_hops before) h ↔ Contains after h

-- the new set has what the two sets have
abbrev pub AreUnited : List NextHop → List NextHop → List NextHop → Type 0
AreUnited one other new = (h : NextHop) → Contains new h ↔ (Contains one h ⊎ Contains other h)

-- some next hop is directly attached
abbrev pub HasDirect : List NextHop → Type 0
HasDirect hops = (interface : ℕ) × Contains hops (NextHop.Direct interface)

-- ---- what is put into the queue

-- what is due is put into the queue at its distance
pub record ArePut (distance : Vertex → Option ℕ) (Due : Vertex → Type 0) (old new : Vertex → Option ℕ) : Type 0 where
  pub keeps : (v : Vertex) → IsQueued old v → IsQueued new v
  pub all : (v : Vertex) → Due v → IsQueued new v
  pub only : (v : Vertex) (k : ℕ) → new v ≡ Some k → (old v ≡ Some k) ⊎ (Due v × (distance v ≡ Some k))

-- it is that vertex, and is reached
abbrev pub IsReachedAt : ℕ → (Vertex → Option ℕ) → Vertex → Vertex → Type 0
IsReachedAt root distance at v = (v ≡ at) × IsReached root distance v

-- it is the head of the link, if that is a least link, and not the root
abbrev pub IsHeadOver : ℕ → (Vertex → Option ℕ) → GraphLink → Vertex → Type 0
IsHeadOver root distance l v = IsLeastLink distance l × (v ≡ l.to) × (v ≢ Router root)

-- it is the head of a least link out of the vertex, and not the root
abbrev pub IsLeastHead : Links → ℕ → (Vertex → Option ℕ) → Vertex → Vertex → Type 0
IsLeastHead link root distance from to = ((cost : ℕ) × (label : Label) × IsShortestLink link distance from to cost label) × (to ≢ Router root)

-- those of the vertices that are reached are put into the queue, but not the root
abbrev pub AreReachedPut : ℕ → DistanceMap → List Vertex → Queue → Queue → Type 0
AreReachedPut root distances vertices old new =
    ArePut (get distances) (IsOfSome vertices (IsReachedAt root (get distances))) (get old) (get new)

-- the vertex is put into the queue if it is reached and not the root
abbrev pub IsReachedPut : ℕ → DistanceMap → Vertex → Queue → Queue → Type 0
IsReachedPut root distances v old new = ArePut (get distances) (IsReachedAt root (get distances) v) (get old) (get new)

-- the heads of the least links of the graph out of the vertex are put into the queue, but not the
-- root
abbrev pub AreHeadsPut : GraphValue → DistanceMap → Vertex → Queue → Queue → Type 0
AreHeadsPut g distances v old new =
    ArePut (get distances) (IsLeastHead (LinksOf g) g.root (get distances) v) (get old) (get new)

-- the link's head is put into the queue if that is a least link, but not the root
abbrev pub IsHeadPut : ℕ → DistanceMap → GraphLink → Queue → Queue → Type 0
IsHeadPut root distances l old new = ArePut (get distances) (IsHeadOver root (get distances) l) (get old) (get new)

-- ---- what is written

-- The vertices of the list that are not reached are written, without duplicates, and have no next
-- hops. The others stay.
pub record AreBlanked (distance : Vertex → Option ℕ) (vertices : List Vertex) (old new : HopMap) (written : List Vertex) : Type 0 where
  pub exact : (v : Vertex) → Contains written v ↔ (Contains vertices v × (distance v ≡ None))
  pub apart : HasNoDoubles written
  pub blank : (v : Vertex) → Contains written v → get new v ≡ None
  pub kept : (v : Vertex) → (Contains written v → ⊥) → get new v ≡ get old v

-- what is lost and not reached is written, and has no next hops
abbrev pub AreBlank : DistanceMap → List Vertex → HopMap → HopMap → List Vertex → Type 0
AreBlank distances lost old new written = AreBlanked (get distances) lost old new written

-- The vertex has what its least links give it. If that is another set, it was written, and the
-- heads of its least links are put into the queue.
pub record IsSettled (link : Links) (root : ℕ) (distance : Vertex → Option ℕ) (queue more : Queue) (now new : Vertex → NextHop → Type 0) (written wider : List Vertex) (v : Vertex) : Type 0 where
  pub union : (h : NextHop) → new v h ↔ IsGiven link root distance now v h
  pub elsewhere : (w : Vertex) → w ≢ v → (h : NextHop) → new w h ↔ now w h
  pub outcome : ((wider ≡ written ++ v ∷ []) × (((h : NextHop) → new v h ↔ now v h) → ⊥) × ArePut distance (IsLeastHead link root distance v) (get queue) (get more))
      ⊎ ((wider ≡ written) × ((h : NextHop) → new v h ↔ now v h) × (more ≡ queue))

-- the vertex has what the least links of the graph give it, where next hops and what was written
-- are from before to after
abbrev pub IsSettledIn : GraphValue → DistanceMap → Vertex → Queue → Queue → HopMap → HopMap → List Vertex → List Vertex → Type 0
IsSettledIn g distances v queue more old new written wider =
    IsSettled (LinksOf g) g.root (get distances) queue more (hops_of old) (hops_of new) written wider v

-- While vertices wait: those that were taken, and those that were written since what is lost is
-- blank. The counts are from the start to now.
pub record IsAmidst (g : GraphValue) (distance : Vertex → Option ℕ) (begun now : Vertex → NextHop → Type 0) (queue : Queue) (blanked moved stale written : List Vertex) (start number sets : ℕ) : Type 0 where
  pub taken : List Vertex
  pub set : List Vertex
  pub updating : AreUpdatingNextHops (LinksOf g) g.root distance (get queue) begun now taken set
  pub whole : written ≡ blanked ++ set
  pub unreached : (v : Vertex) → Contains blanked v → distance v ≡ None
  pub apart : HasNoDoubles taken
  pub written_apart : HasNoDoubles written
  pub count : number ≡ start + length taken
  pub counted : sets ≡ length written
  pub moved_taken : (v : Vertex) → IsReached g.root distance v → Contains moved v → Contains taken v ⊎ IsQueued (get queue) v
  pub why_taken : (v : Vertex) → Contains taken v → IsTakenBy g moved stale written v
  pub why_queued : (v : Vertex) (k : ℕ) → get queue v ≡ Some k → IsTakenBy g moved stale written v
