-- Intra-area networks and routers (RFC 2328, 16.1, 16.8).
use Rattle.std.specs.Prelude.{ℕ, ◌+◌, ◌≡◌, ◌≢◌, ◌<◌, ◌≤◌, ◌⊎◌, List, Contains, None, bit_and}
use Rattle.std.specs.Ordering.{nat_cmp, ordering_then}
use Rattle.std.specs.declared.cmp.Ordering.{Ordering}
use Rattle.ospf_types.specs.declared.prefix.Prefix.{Prefix}
use Rattle.ospf_types.specs.declared.config.Interface.{Interface}
use Rattle.ospf_types.specs.declared.entry.Vertex.{Vertex}
use Rattle.ospf_types.specs.declared.entry.Vertex.TheVariants.{Router, Network}
use Rattle.ospf_types.specs.declared.hop.NextHop.{NextHop}
use Rattle.ospf_types.specs.declared.hop.NextHop.TheVariants as hop
use Rattle.ospf_types.specs.declared.hop.Path.{Path}
use Rattle.ospf_types.specs.Address.{HasAddress}
use Rattle.ospf_types.specs.Best.{IsBest, NoOffer}
use Rattle.ospf_types.specs.declared.lsa.LinkKind.TheVariants.{Stub}
use Rattle.ospf_types.specs.Lsa.{RouterLink, network_of}
use Rattle.ospf_types.specs.Inputs.{Inputs, Area, IsUp}
use Rattle.ospf_types.specs.Links.{IsRouter, IsNetwork, IsLink, IsVertex}
use Rattle.ospf_types.specs.Distances.{IsDistance, IsHop}

-- the distance of a vertex of the area
abbrev pub IsDistanceIn : Inputs → Area → Vertex → ℕ → Type 0
IsDistanceIn s a to distance = IsDistance (IsLink s a) s.router (IsVertex a (Router s.router)) to distance

-- a next hop of a vertex of the area
abbrev pub IsHopIn : Inputs → Area → Vertex → NextHop → Type 0
IsHopIn s a to h = IsHop (IsLink s a) s.router (IsVertex a (Router s.router)) to h

-- the vertex is reached at this distance over this next hop
abbrev pub Reaches : Inputs → Area → Vertex → ℕ → NextHop → Type 0
Reaches s a to distance h = IsDistanceIn s a to distance × IsHopIn s a to h

abbrev pub inside_area : NextHop → Path
inside_area h = record { hop = h; advertiser = None }

-- the network vertex with this number is reached, and its destination is the prefix
abbrev pub LeadsToPrefix : Inputs → Area → ℕ → ℕ → Prefix → Type 0
LeadsToPrefix s a id distance p = (mask : ℕ) × (routers : List ℕ) × IsNetwork a id mask routers × (network_of id mask ≡ p) × IsDistanceIn s a (Network id) distance

-- The nearest of these vertices stands for the prefix; at one distance, the one with the greatest
-- number.
pub record StandsForPrefix (s : Inputs) (a : Area) (id distance : ℕ) (p : Prefix) : Type 0 where
  pub leads : LeadsToPrefix s a id distance p
  pub nearest : (other d : ℕ) → LeadsToPrefix s a other d p → distance ≤ d
  pub greatest : (other : ℕ) → LeadsToPrefix s a other distance p → other ≤ id

-- a transit network offers its vertex's distance and next hops
abbrev pub TransitOffers : Inputs → Area → Prefix → ℕ → Path → Type 0
TransitOffers s a p cost path = (id : ℕ) × (h : NextHop) × StandsForPrefix s a id cost p × IsHopIn s a (Network id) h × (path ≡ inside_area h)

-- the router has a stub link to the prefix at this metric
abbrev pub HasStub : Area → ℕ → Prefix → ℕ → Type 0
HasStub a router p metric = (flags : ℕ) × (links : List RouterLink) × (l : RouterLink)
    × IsRouter a router flags links × Contains links l × (l.kind ≡ Stub) × (network_of l.id l.detail ≡ p) × (l.metric ≡ metric)

-- a stub link of another router offers that router's distance and the metric, with that router's
-- next hops
abbrev pub StubOffers : Inputs → Area → Prefix → ℕ → Path → Type 0
StubOffers s a p cost path = (router distance metric : ℕ) × (h : NextHop)
    × (router ≢ s.router) × HasStub a router p metric × Reaches s a (Router router) distance h
    × (cost ≡ distance + metric) × (path ≡ inside_area h)

-- the interface lies in the prefix, by its address or by its peer's
abbrev pub LiesIn : Interface → Prefix → Type 0
LiesIn i p = HasAddress p i.address ⊎ ((0 < i.peer) × HasAddress p i.peer)

-- a stub link of the root offers its metric, over each interface of the area that is up and lies in
-- the prefix
abbrev pub OwnStubOffers : Inputs → Area → Prefix → ℕ → Path → Type 0
OwnStubOffers s a p cost path = (id : ℕ) × (i : Interface)
    × HasStub a s.router p cost × IsUp s a id i × LiesIn i p × (path ≡ inside_area (hop.Direct id))

-- a cost, and the area
abbrev pub AreaCost : Type 0
AreaCost = ℕ × ℕ

-- the lesser cost first, and at one cost the greater area
abbrev pub area_cost_cmp : AreaCost → AreaCost → Ordering
area_cost_cmp x y = ordering_then (nat_cmp x.0 y.0) (nat_cmp y.1 x.1)

abbrev pub IntraOffers : Inputs → Prefix → AreaCost → Path → Type 0
IntraOffers s p preference path = (a : Area) × Contains s.areas a × (a.id ≡ preference.1)
    × (TransitOffers s a p preference.0 path ⊎ StubOffers s a p preference.0 path ⊎ OwnStubOffers s a p preference.0 path)

-- the entry of an intra-area network
abbrev pub IsIntra : Inputs → Prefix → AreaCost → List Path → Type 0
IsIntra s p preference paths = IsBest area_cost_cmp (IntraOffers s p) preference paths

abbrev pub NoIntra : Inputs → Prefix → Type 0
NoIntra s p = NoOffer (IntraOffers s p)

abbrev pub B : ℕ
B = 1

abbrev pub E : ℕ
E = 2

-- another router that is reached in the area and has the flag
pub record ReachesWith (flag : ℕ) (s : Inputs) (a : Area) (router distance : ℕ) (h : NextHop) : Type 0 where
  pub reached : Reaches s a (Router router) distance h
  pub other : router ≢ s.router
  pub flagged : (flags : ℕ) × (links : List RouterLink) × IsRouter a router flags links × (0 < bit_and flags flag)

abbrev pub ReachesBorder : Inputs → Area → ℕ → ℕ → NextHop → Type 0
ReachesBorder s a router distance h = ReachesWith B s a router distance h

abbrev pub ReachesBoundary : Inputs → Area → ℕ → ℕ → NextHop → Type 0
ReachesBoundary s a router distance h = ReachesWith E s a router distance h
