-- The vertices and links of one area (RFC 2328, 16.1).
use Rattle.std.specs.List.Sorted.{IsStrictlyIncreasing}
use Rattle.std.specs.Prelude.{◌↔◌, ℕ, ◌≡◌, ◌≢◌, ◌<◌, ◌≤◌, List, Contains}
use Rattle.ospf_types.specs.declared.config.Interface.{Interface}
use Rattle.ospf_types.specs.declared.entry.Vertex.{Vertex}
use Rattle.ospf_types.specs.declared.entry.Vertex.TheVariants.{Router, Network}
use Rattle.ospf_types.specs.declared.label.Label.{Label}
use Rattle.ospf_types.specs.declared.label.Label.TheVariants.{Over, At, Plain}
use Rattle.ospf_types.specs.declared.lsa.LinkKind.TheVariants.{PointToPoint, Transit}
use Rattle.ospf_types.specs.Lsa.{Lsa, RouterLink, RouterLinks, NetworkLinks}
use Rattle.ospf_types.specs.Inputs.{Inputs, Area, HasLsa, IsUp}

-- the router has a usable router-LSA with these flags and links
pub record IsRouter (a : Area) (router : ℕ) (flags : ℕ) (links : List RouterLink) : Type 0 where
  pub lsa : (l : Lsa) × HasLsa a l × (l.header.router ≡ router) × (l.body ≡ RouterLinks flags links)

-- a usable network-LSA with this Link State ID
pub record IsNetworkLsa (a : Area) (id advertiser mask : ℕ) (routers : List ℕ) : Type 0 where
  pub lsa : (l : Lsa) × HasLsa a l × (l.header.id ≡ id) × (l.header.router ≡ advertiser) × (l.body ≡ NetworkLinks mask routers)

-- The network is a vertex. If several network-LSAs have its ID, the one of the greatest Advertising
-- Router counts.
pub record IsNetwork (a : Area) (id mask : ℕ) (routers : List ℕ) : Type 0 where
  pub chosen : (advertiser : ℕ) × IsNetworkLsa a id advertiser mask routers
      × ((other m : ℕ) (rs : List ℕ) → IsNetworkLsa a id other m rs → other ≤ advertiser)

abbrev pub IsVertex : Area → Vertex → Type 0
IsVertex a (Router r) = (flags : ℕ) × (links : List RouterLink) × IsRouter a r flags links
IsVertex a (Network n) = (mask : ℕ) × (routers : List ℕ) × IsNetwork a n mask routers

-- What links rest on: the router whose databases these are, the routers with their flags and links,
-- the networks with their masks and routers, and the interfaces that are up, by identifier and
-- address. A database is one such view, and what a graph was handed is another.
pub record View : Type 1 where
  pub root : ℕ
  pub HasRouter : ℕ → ℕ → List RouterLink → Type 0
  pub HasNetwork : ℕ → ℕ → List ℕ → Type 0
  pub HasInterface : ℕ → ℕ → Type 0

-- the vertex is there
abbrev pub IsVertexOf : View → Vertex → Type 0
IsVertexOf w (Router r) = (flags : ℕ) × (links : List RouterLink) × w.HasRouter r flags links
IsVertexOf w (Network n) = (mask : ℕ) × (routers : List ℕ) × w.HasNetwork n mask routers

-- the router has a point-to-point link to that router, whatever its metric
abbrev pub NamesRouter : View → ℕ → ℕ → Type 0
NamesRouter w from to = (flags : ℕ) × (links : List RouterLink) × (l : RouterLink)
    × w.HasRouter from flags links × Contains links l × (l.kind ≡ PointToPoint) × (l.id ≡ to)

-- the router has a link to that transit network, whatever its metric
abbrev pub NamesNetwork : View → ℕ → ℕ → Type 0
NamesNetwork w from to = (flags : ℕ) × (links : List RouterLink) × (l : RouterLink)
    × w.HasRouter from flags links × Contains links l × (l.kind ≡ Transit) × (l.id ≡ to)

-- the network lists that router
abbrev pub ListsRouter : View → ℕ → ℕ → Type 0
ListsRouter w network router = (mask : ℕ) × (routers : List ℕ) × w.HasNetwork network mask routers × Contains routers router

-- The label of a link of a router with this Link Data. A link of the root counts only over an
-- interface that is up and has that address.
abbrev pub IsLabel : View → ℕ → ℕ → Label → Type 0
IsLabel w from detail (Over id) = (from ≡ w.root) × w.HasInterface id detail
IsLabel w from detail Plain = from ≢ w.root
IsLabel w from detail (At addresses) = ⊥

-- the router has this address on the network: the Link Data of a link to it, whatever its metric
abbrev pub HasAddressOn : ℕ → List RouterLink → ℕ → Type 0
HasAddressOn network links address = (l : RouterLink) × Contains links l × (l.kind ≡ Transit) × (l.id ≡ network) × (l.detail ≡ address)

-- the router's addresses on the network, ascending without duplicates, so that there is one list of
-- them
pub record AreAddressesOn (network : ℕ) (links : List RouterLink) (addresses : List ℕ) : Type 0 where
  pub ascending : IsStrictlyIncreasing addresses
  pub same : (address : ℕ) → Contains addresses address ↔ HasAddressOn network links address

-- A link from one vertex to another at a cost. The other end links back; a metric of 0 gives no
-- link.
abbrev pub IsLinkOf : View → Vertex → Vertex → ℕ → Label → Type 0
IsLinkOf w (Router from) (Router to) cost label =
    (flags : ℕ) × (links : List RouterLink) × (l : RouterLink)
    × w.HasRouter from flags links × Contains links l × (l.kind ≡ PointToPoint) × (l.id ≡ to)
    × (l.metric ≡ cost) × (0 < cost) × IsLabel w from l.detail label
    × NamesRouter w to from
IsLinkOf w (Router from) (Network to) cost label =
    (flags : ℕ) × (links : List RouterLink) × (l : RouterLink)
    × w.HasRouter from flags links × Contains links l × (l.kind ≡ Transit) × (l.id ≡ to)
    × (l.metric ≡ cost) × (0 < cost) × IsLabel w from l.detail label
    × ListsRouter w to from
IsLinkOf w (Network from) (Router to) cost label =
    (flags : ℕ) × (links : List RouterLink) × (addresses : List ℕ)
    × ListsRouter w from to × (cost ≡ 0) × w.HasRouter to flags links × AreAddressesOn from links addresses × (label ≡ At addresses)
    × NamesNetwork w to from
IsLinkOf w (Network from) (Network to) cost label = ⊥

-- an area of the inputs, as its links see it
abbrev pub view_of : Inputs → Area → View
view_of s a = record {
  root = s.router;
  HasRouter = IsRouter a;
  HasNetwork = IsNetwork a;
  HasInterface = λ id address. (i : Interface) × IsUp s a id i × (i.address ≡ address);
}

-- the links of an area
abbrev pub IsLink : Inputs → Area → Vertex → Vertex → ℕ → Label → Type 0
IsLink s a = IsLinkOf (view_of s a)
