-- The basis of a shortest-path tree: the links, the distances of the vertices, and the next hops
-- that a link passes on.
use Rattle.std.specs.Prelude.{◌↔◌, ℕ, ◌+◌, ◌*◌, ◌≡◌, ◌≢◌, ◌<◌, ◌≤◌, ◌⊎◌, ◌++◌, ◌∷◌, [], List, map, Contains, Option, Some, None}
use Rattle.ospf_types.specs.declared.entry.Vertex.{Vertex}
use Rattle.ospf_types.specs.declared.entry.Vertex.TheVariants.{Router, Network}
use Rattle.ospf_types.specs.declared.hop.NextHop.{NextHop}
use Rattle.ospf_types.specs.declared.hop.NextHop.TheVariants as hop
use Rattle.ospf_types.specs.declared.label.Label.{Label}
use Rattle.ospf_types.specs.declared.label.Label.TheVariants.{Over, At, Plain}
use Rattle.ospf_types.specs.Distances.{Links, TakenLink, Leads, IsPath, cost_of, IsDistance, FirstOnly, IsHop}

-- where a link out of a network leads: to a router, at no cost
pub record IsOntoRouter (to : Vertex) (cost : ℕ) (label : Label) : Type 0 where
  pub router : ℕ
  pub addresses : List ℕ
  pub leads : to ≡ Router router
  pub free : cost ≡ 0
  pub labelled : label ≡ At addresses

-- where a link out of the root leads: over an interface, and the root is a vertex
pub record IsOverInterface (has_root : Type 0) (label : Label) : Type 0 where
  pub has : has_root
  pub interface : ℕ
  pub labelled : label ≡ Over interface

-- what the tree needs of its links
pub record AreLinks (link : Links) (root : ℕ) (has_root : Type 0) : Type 0 where
  pub out_of_router : (router : ℕ) (to : Vertex) (cost : ℕ) (label : Label) → link (Router router) to cost label → 0 < cost
  pub out_of_network : (network : ℕ) (to : Vertex) (cost : ℕ) (label : Label) → link (Network network) to cost label → IsOntoRouter to cost label
  pub out_of_root : (to : Vertex) (cost : ℕ) (label : Label) → link (Router root) to cost label → IsOverInterface has_root label

-- each link out of a network has an address
pub record HaveAddresses (link : Links) : Type 0 where
  pub address : (network : ℕ) (to : Vertex) (cost : ℕ) (addresses : List ℕ) → link (Network network) to cost (At addresses) → (address : ℕ) × Contains addresses address

-- each link out of a router costs at most this, and the router is in the list
pub record AreCosts (link : Links) (most : ℕ) (routers : List ℕ) : Type 0 where
  pub bounded : (router : ℕ) (to : Vertex) (cost : ℕ) (label : Label) → link (Router router) to cost label → cost ≤ most
  pub listed : (router : ℕ) (to : Vertex) (cost : ℕ) (label : Label) → link (Router router) to cost label → Contains routers router

-- a step over a link
abbrev pub step_to : Vertex → ℕ → Label → TakenLink
step_to v c l = record { to = v; cost = c; label = l }

-- the way leads to a vertex other than the root, by a last step from some tail
pub record EndsIn (link : Links) (root : ℕ) (from : Vertex) (way : List TakenLink) (to : Vertex) : Type 0 where
  pub before : List TakenLink
  pub tail : Vertex
  pub cost : ℕ
  pub label : Label
  pub leads : Leads link root from before tail
  pub taken : link tail to cost label
  pub other : to ≢ Router root
  pub whole : way ≡ before ++ step_to to cost label ∷ []

-- a value that is there, and at most the limit
pub record IsInLimit (value : Option ℕ) (limit : ℕ) : Type 0 where
  pub number : ℕ
  pub is : value ≡ Some number
  pub most : number ≤ limit

-- a path to the vertex costs at most the limit
pub record HasPathWithin (link : Links) (root : ℕ) (has_root : Type 0) (to : Vertex) (limit : ℕ) : Type 0 where
  pub way : List TakenLink
  pub path : IsPath link root has_root way to
  pub most : cost_of way ≤ limit

-- each link from a vertex with a value leads to one that is valued at no more than it costs over
-- that link
pub record AreRelaxed (link : Links) (root : ℕ) (value : Vertex → Option ℕ) : Type 0 where
  pub relaxed : (from to : Vertex) (cost : ℕ) (label : Label) (d : ℕ) → link from to cost label → to ≢ Router root → value from ≡ Some d → IsInLimit (value to) (d + cost)

-- each value is at least the cost of some path
pub record AreReal (link : Links) (root : ℕ) (has_root : Type 0) (value : Vertex → Option ℕ) : Type 0 where
  pub real : (to : Vertex) (d : ℕ) → value to ≡ Some d → HasPathWithin link root has_root to d

-- The values are the distances: what has one is reached at it, what has none is not reached.
pub record AreDistances (link : Links) (root : ℕ) (has_root : Type 0) (value : Vertex → Option ℕ) : Type 0 where
  pub right : (to : Vertex) (d : ℕ) → value to ≡ Some d → IsDistance link root has_root to d
  pub unreached : (to : Vertex) → value to ≡ None → (way : List TakenLink) → IsPath link root has_root way to → ⊥

-- a link over which its head has its distance
pub record IsShortestLink (link : Links) (distance : Vertex → Option ℕ) (from to : Vertex) (cost : ℕ) (label : Label) : Type 0 where
  pub taken : link from to cost label
  pub near : ℕ
  pub tail : distance from ≡ Some near
  pub head : distance to ≡ Some (near + cost)

-- some least link into the vertex
pub record HasLeast (link : Links) (distance : Vertex → Option ℕ) (to : Vertex) : Type 0 where
  pub from : Vertex
  pub cost : ℕ
  pub label : Label
  pub least : IsShortestLink link distance from to cost label

-- The nearer vertex has the lesser rank, and so have networks at the same distance.
abbrev pub rank : Vertex → ℕ → ℕ
rank (Router r) d = 2 * d + 1
rank (Network n) d = 2 * d

-- The next hop that a link passes on of a next hop of its tail, by its label (RFC 2328, 16.1.1:
-- what its head inherits from the parent). A network that is attached to the root becomes the
-- addresses there.
abbrev pub HandsOn : NextHop → Label → NextHop → Type 0
HandsOn (hop.Direct i) (At addresses) h = (address : ℕ) × Contains addresses address × (h ≡ hop.Router i address)
HandsOn (hop.Direct i) (Over other) h = ⊥
HandsOn (hop.Direct i) Plain h = ⊥
HandsOn (hop.Peer i) label h = h ≡ hop.Peer i
HandsOn (hop.Router i a) label h = h ≡ hop.Router i a

-- the next hop of a path of one step, as a list
abbrev pub first_hops : Vertex → Label → List NextHop
first_hops (Router r) (Over id) = hop.Peer id ∷ []
first_hops (Network n) (Over id) = hop.Direct id ∷ []
first_hops v (At addresses) = []
first_hops v Plain = []

-- what a link passes on, as a list
abbrev pub handed_on : NextHop → Label → List NextHop
handed_on (hop.Direct i) (At addresses) = map (λ address. hop.Router i address) addresses
handed_on (hop.Direct i) (Over other) = []
handed_on (hop.Direct i) Plain = []
handed_on (hop.Peer i) label = hop.Peer i ∷ []
handed_on (hop.Router i a) label = hop.Router i a ∷ []

-- what a link gives its head: out of the root the first hop of the link alone, else what it passes
-- on
abbrev pub GivesHop : ℕ → (Vertex → NextHop → Type 0) → Vertex → Vertex → Label → NextHop → Type 0
GivesHop root hops from to label h = ((from ≡ Router root) × FirstOnly to label h) ⊎ ((from ≢ Router root) × (g : NextHop) × hops from g × HandsOn g label h)

-- what some least link into the vertex gives it
pub record IsGiven (link : Links) (root : ℕ) (distance : Vertex → Option ℕ) (hops : Vertex → NextHop → Type 0) (to : Vertex) (h : NextHop) : Type 0 where
  pub from : Vertex
  pub cost : ℕ
  pub label : Label
  pub least : IsShortestLink link distance from to cost label
  pub gives : GivesHop root hops from to label h

-- each reached vertex but the root has as next hops what its least links give it
pub record AreUnions (link : Links) (root : ℕ) (distance : Vertex → Option ℕ) (hops : Vertex → NextHop → Type 0) : Type 0 where
  pub union : (to : Vertex) (d : ℕ) → distance to ≡ Some d → to ≢ Router root → (h : NextHop) → hops to h ↔ IsGiven link root distance hops to h

-- The tree of the links: the distance of each vertex that is reached, and the next hops of each
-- vertex.
pub record IsTree (link : Links) (root : ℕ) (has_root : Type 0) (distance : Vertex → Option ℕ) (hops : Vertex → NextHop → Type 0) : Type 0 where
  pub distances : AreDistances link root has_root distance
  pub right : (to : Vertex) (h : NextHop) → hops to h ↔ IsHop link root has_root to h
