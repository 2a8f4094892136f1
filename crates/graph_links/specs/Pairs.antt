-- The links from one vertex to another, by what the two lead to.
use Rattle.std.specs.Prelude.{◌↔◌, ◌⊎◌, ℕ, ◌≡◌, ◌≢◌, ◌<◌, ◌==◌, if◌then◌else◌, Bool, false, List, [], ◌∷◌, ◌++◌, eqb, map, Option, Some, None, Contains}
use Rattle.std.specs.List.{All, AllPairs, dedup}
use Rattle.std.specs.List.Sorted.{IsStrictlyIncreasing, IsStrictlySortedBy}
use Rattle.ospf_types.specs.declared.entry.Vertex.{Vertex}
use Rattle.ospf_types.specs.declared.entry.Vertex.TheVariants.{Router, Network}
use Rattle.ospf_types.specs.declared.label.Label.{Label}
use Rattle.ospf_types.specs.declared.label.Label.TheVariants.{Over, At, Plain}
use Rattle.graph_links.specs.declared.link.GraphLink.{GraphLink}
use Rattle.graph_links.specs.declared.link.Up.{Up}
use Rattle.graph_links.specs.declared.link_end.LinkEnd.{LinkEnd}
use Rattle.graph_links.specs.declared.vertex_pair.RootInterfaces.{RootInterfaces}
use Rattle.graph_links.specs.declared.vertex_pair.VertexPair.{VertexPair}
use Rattle.graph_links.specs.declared.parallel_links.ParallelLink.{ParallelLink}
use Rattle.graph_links.specs.EndOrder.{AreEndsAt, end_cmp}

-- one of the ends is at the vertex
abbrev pub Names : List LinkEnd → Vertex → Type 0
Names ends v = (e : LinkEnd) × Contains ends e × (e.to ≡ v)

-- all the ends of a list that are at the vertex, of which there is one at least
pub record AreAllAt (v : Vertex) (all : List LinkEnd) (ends : List LinkEnd) : Type 0 where
  pub in_order : IsStrictlySortedBy end_cmp ends
  pub exact : AreEndsAt v all ends
  pub some : Names ends v

-- the two lists have the same ends at the vertex
abbrev pub AreAlikeAt : Vertex → List LinkEnd → List LinkEnd → Type 0
AreAlikeAt v ends others = (e : LinkEnd) → e.to ≡ v → Contains ends e ↔ Contains others e

-- the label of a link out of a router with this Link Data
abbrev pub IsOutLabel : ℕ → List Up → ℕ → ℕ → Label → Type 0
IsOutLabel root ups from detail (Over id) = (from ≡ root) × Contains ups (record { id = id; address = detail })
IsOutLabel root ups from detail Plain = from ≢ root
IsOutLabel root ups from detail (At addresses) = ⊥

-- the addresses of a router on a network, by what the router leads to, ascending without duplicates
pub record AreDetailsTo (v : Vertex) (ends : List LinkEnd) (addresses : List ℕ) : Type 0 where
  pub ascending : IsStrictlyIncreasing addresses
  pub same : (address : ℕ) → Contains addresses address ↔ ((e : LinkEnd) × Contains ends e × (e.to ≡ v) × (e.detail ≡ address))

-- the label of a link of a router: over this interface at the root, plain elsewhere
abbrev pub label_over : Option ℕ → Label
label_over None = Plain
label_over (Some id) = Over id

-- the link of a router to a vertex by this way
abbrev pub link_by : Vertex → Vertex → ParallelLink → GraphLink
link_by from to way = record { from = from; to = to; cost = way.cost; label = label_over way.interface }

-- a way of a router over one of its ends, whether that leads back or not
abbrev pub IsWay : ℕ → List Up → ℕ → LinkEnd → ParallelLink → Type 0
IsWay root ups router e way = (e.metric ≡ way.cost) × (0 < way.cost) × IsOutLabel root ups router e.detail (label_over way.interface)

-- a way over one of some ends
abbrev pub IsWayOver : ℕ → List Up → ℕ → List LinkEnd → ParallelLink → Type 0
IsWayOver root ups router ends way = (e : LinkEnd) × Contains ends e × IsWay root ups router e way

-- the ways of a router over some of its ends
abbrev pub AreWays : RootInterfaces → ℕ → List LinkEnd → List ParallelLink → Type 0
AreWays local router ends ways = (w : ParallelLink) → Contains ways w ↔ IsWayOver local.root local.interfaces.now router ends w

-- the links of a router by these ways are added, after those that there were
abbrev pub AddsBy : VertexPair → List ParallelLink → List GraphLink → List GraphLink → Type 0
AddsBy pair ways old new = new ≡ old ++ map (link_by pair.from.vertex pair.to.vertex) ways

-- a link by each way of the router over its ends is added, after those that there were
pub record AddsOver (pair : VertexPair) (router : ℕ) (old new : List GraphLink) : Type 0 where
  pub ways : List ParallelLink
  pub exact : AreWays pair.local router pair.from.ends.now ways
  pub each_once : AllPairs (λ v w. v ≢ w) ways
  pub added : AddsBy pair ways old new

-- the way of a router other than the root over one of its ends, if the metric is not 0
abbrev pub plain_ways : LinkEnd → List ParallelLink
plain_ways e = if e.metric == 0 then [] else record { cost = e.metric; interface = None } ∷ []

-- the link over the one end of a router other than the root is added, if the metric is not 0
abbrev pub AddsPlain : VertexPair → LinkEnd → List GraphLink → List GraphLink → Type 0
AddsPlain pair e old new = AddsBy pair (plain_ways e) old new

-- the link of a network to a vertex that leads to these ends, whether the network leads back or not
abbrev pub IsOnto : Vertex → Vertex → List LinkEnd → GraphLink → Type 0
IsOnto network to back l =
    (l.from ≡ network) × (l.to ≡ to) × ((router : ℕ) × (to ≡ Router router)) × (l.cost ≡ 0)
    × ((addresses : List ℕ) × AreDetailsTo network back addresses × (l.label ≡ At addresses))

-- the list has these in addition to its old elements
abbrev pub AddsToList : {X : Type 0} → List X → List X → (X → Type 0) → Type 0
AddsToList {X} old new Is = (x : X) → Contains new x ↔ (Contains old x ⊎ Is x)

-- the ways of a router over the end are added
abbrev pub AddsWays : RootInterfaces → ℕ → LinkEnd → List ParallelLink → List ParallelLink → Type 0
AddsWays local router e old new = AddsToList old new (IsWay local.root local.interfaces.now router e)

-- the ways of the root over the end and these interfaces are added
abbrev pub AddsRootWays : ℕ → List Up → LinkEnd → List ParallelLink → List ParallelLink → Type 0
AddsRootWays root ups e old new = AddsToList old new (IsWay root ups root e)

-- the link of a network is added, if the other vertex is a router
abbrev pub AddsOnto : VertexPair → List GraphLink → List GraphLink → Type 0
AddsOnto pair old new = (back : List LinkEnd) → AreAllAt pair.from.vertex back pair.to.ends.now → AddsToList old new (IsOnto pair.from.vertex pair.to.vertex back)

-- no link occurs twice
abbrev pub AreApart : List GraphLink → Type 0
AreApart links = AllPairs (λ k l. k ≢ l) links

-- none occurs twice in a list to which links from the one vertex to the other are added that it did
-- not have
abbrev pub KeepsLinksApart : Vertex → Vertex → List GraphLink → List GraphLink → Type 0
KeepsLinksApart from to old new = AreApart old → ((l : GraphLink) → Contains old l → l.from ≡ from → l.to ≡ to → ⊥) → AreApart new

-- nor in one to which links out of a vertex are added that it did not have
abbrev pub KeepsApartFrom : Vertex → List GraphLink → List GraphLink → Type 0
KeepsApartFrom from old new = AreApart old → ((l : GraphLink) → Contains old l → l.from ≡ from → ⊥) → AreApart new

-- the Link Data of the ends, without what equals the one before it
abbrev pub details_of : List LinkEnd → List ℕ
details_of ends = dedup eqb (map (λ (e : LinkEnd). e.detail) ends)

-- true if the last number added is this one
abbrev pub is_last : Option ℕ → ℕ → Bool
is_last None n = false
is_last (Some m) n = m == n

-- the number is added, unless it is the last number added
abbrev pub AddsOnce : Option ℕ → ℕ → List ℕ → List ℕ → Type 0
AddsOnce last n old new = new ≡ (if is_last last n then old else old ++ n ∷ [])

-- A link from a vertex to another, where these are the ends of the two. Each names the other.
abbrev pub IsPairLink : ℕ → List Up → Vertex → List LinkEnd → Vertex → List LinkEnd → ℕ → Label → Type 0
IsPairLink root ups (Router from) ends to back cost label =
    (e : LinkEnd) × Contains ends e × (e.to ≡ to) × (e.metric ≡ cost) × (0 < cost) × IsOutLabel root ups from e.detail label × Names back (Router from)
IsPairLink root ups (Network from) ends (Router to) back cost label =
    Names ends (Router to) × (cost ≡ 0) × Names back (Network from) × ((addresses : List ℕ) × AreDetailsTo (Network from) back addresses × (label ≡ At addresses))
IsPairLink root ups (Network from) ends (Network to) back cost label = ⊥

-- the pair seen from the other vertex
abbrev pub turned : VertexPair → VertexPair
turned pair = record { local = pair.local; from = pair.to; to = pair.from }

-- the links from the one vertex to the other are added, where the two have these ends at each other
abbrev pub AddsBetween : VertexPair → List GraphLink → List GraphLink → Type 0
AddsBetween pair old new =
    let from : Vertex = pair.from.vertex in
    let to : Vertex = pair.to.vertex in
    (ends back : List LinkEnd) → AreAllAt to ends pair.from.ends.now → AreAllAt from back pair.to.ends.now
    → AddsToList old new (λ (l : GraphLink). (l.from ≡ from) × (l.to ≡ to) × IsPairLink pair.local.root pair.local.interfaces.now from ends to back l.cost l.label)

-- the inputs other than LSAs that the links out of the vertex depend on are the same
abbrev pub IsSameLocal : RootInterfaces → RootInterfaces → Vertex → Type 0
IsSameLocal one other v = (one.root ≡ other.root) × ((v ≢ Router one.root) ⊎ (one.interfaces.now ≡ other.interfaces.now))

-- metrics of links have 16 bits
abbrev pub AreCheap : List GraphLink → Type 0
AreCheap links = All (λ (l : GraphLink). l.cost < 65536) links
