-- The offers to a network inside an area (RFC 2328, 16.1), over any relation that says which
-- vertices offer it.
use Rattle.std.specs.Prelude.{ℕ, ◌+◌, ◌≡◌, ◌≢◌, ◌≤◌, ◌⊎◌, IsTrue, Contains, Some}
use Rattle.ospf_types.specs.declared.config.Interface.{Interface}
use Rattle.ospf_types.specs.declared.entry.Vertex.{Vertex}
use Rattle.ospf_types.specs.declared.entry.Vertex.TheVariants.{Router, Network}
use Rattle.ospf_types.specs.declared.hop.NextHop.{NextHop}
use Rattle.ospf_types.specs.declared.hop.NextHop.TheVariants as hop
use Rattle.ospf_types.specs.declared.hop.Path.{Path}
use Rattle.ospf_types.specs.declared.lsa.LinkKind.TheVariants.{Stub}
use Rattle.ospf_types.specs.declared.prefix.Prefix.{Prefix}
use Rattle.ospf_types.specs.Intra.{AreaCost, LiesIn, inside_area}
use Rattle.ospf_types.specs.Lsa.{Body, RouterLink, network_of}
use Rattle.lsa_codec.specs.Readers.{links_of, prefix_in}
use Rattle.lsdb.specs.Databases.{Database}
use Rattle.area_trees.specs.Areas.{IsStanding}
use Rattle.intra.specs.Inputs.{AreaValue, InputsValue, distance_at, hops_at}

-- the vertices that offer a prefix, each with the metric that is added to its distance
abbrev pub Offering : Type 1
Offering = Vertex → Prefix → ℕ → Type 0

-- an LSA of this body offers the prefix: a router by a stub link, a transit network as its own
abbrev pub BodyOffers : Vertex → Body → Prefix → ℕ → Type 0
BodyOffers (Router r) body p metric = (l : RouterLink) × Contains (links_of body) l × (l.kind ≡ Stub) × (network_of l.id l.detail ≡ p) × (l.metric ≡ metric)
BodyOffers (Network n) body p metric = (prefix_in n body ≡ Some p) × (metric ≡ 0)

-- the vertex offers the prefix by the LSA that stands for it
abbrev pub HasOffer : Database → Offering
HasOffer d v p metric = (body : Body) × IsStanding d v (Some body) × BodyOffers v body p metric

-- the network offers the prefix, and is reached at this distance
abbrev pub IsReachedFor : Offering → AreaValue → Prefix → ℕ → ℕ → Type 0
IsReachedFor offered a p id distance = offered (Network id) p 0 × (distance_at a (Network id) ≡ Some distance)

-- The nearest of several networks with one prefix stands for it; at one distance, the one with the
-- greatest number.
pub record IsNearest (offered : Offering) (a : AreaValue) (p : Prefix) (id distance : ℕ) : Type 0 where
  pub reached : IsReachedFor offered a p id distance
  pub nearest : (other d : ℕ) → IsReachedFor offered a p other d → distance ≤ d
  pub greatest : (other : ℕ) → IsReachedFor offered a p other distance → other ≤ id

abbrev pub OffersTransit : Offering → AreaValue → Prefix → ℕ → Path → Type 0
OffersTransit offered a p cost path = (id : ℕ) × (h : NextHop) × IsNearest offered a p id cost × Contains (hops_at a (Network id)) h × (path ≡ inside_area h)

-- a stub link of a router that is reached, other than the root
abbrev pub OffersStub : Offering → ℕ → AreaValue → Prefix → ℕ → Path → Type 0
OffersStub offered root a p cost path = (router distance metric : ℕ) × (h : NextHop)
    × (router ≢ root) × offered (Router router) p metric × (distance_at a (Router router) ≡ Some distance) × Contains (hops_at a (Router router)) h
    × (cost ≡ distance + metric) × (path ≡ inside_area h)

-- a stub link of the root, over each interface of the area that is up and lies in the prefix
abbrev pub OffersOwn : Offering → InputsValue → AreaValue → Prefix → ℕ → Path → Type 0
OffersOwn offered v a p cost path = (id : ℕ) × (i : Interface)
    × offered (Router v.root) p cost × Contains v.interfaces (id, i) × (i.area ≡ a.id) × IsTrue i.up × LiesIn i p × (path ≡ inside_area (hop.Direct id))

-- what an area offers to a network, at its cost
abbrev pub AreaOffers : Offering → InputsValue → AreaValue → Prefix → ℕ → Path → Type 0
AreaOffers offered v a p cost path = OffersTransit offered a p cost path ⊎ OffersStub offered v.root a p cost path ⊎ OffersOwn offered v a p cost path

-- what an area offers to a network, at a cost in that area
abbrev pub KeyedOffers : Offering → InputsValue → AreaValue → Prefix → AreaCost → Path → Type 0
KeyedOffers offered v a p key path = (key.1 ≡ a.id) × AreaOffers offered v a p key.0 path

-- all that is offered to a network
abbrev pub OffersOf : InputsValue → Prefix → AreaCost → Path → Type 0
OffersOf v p key path = (a : AreaValue) × Contains v.areas a × KeyedOffers (HasOffer a.lsas) v a p key path
