-- The offers of a prefix's sources in an area, part by part.
use Rattle.std.specs.Prelude.{ℕ, ◌≡◌, ◌≤◌, ◌⊎◌, ◌++◌, ◌∷◌, [], IsTrue, List, map, Contains, Option, Some, None}
use Rattle.ospf_types.specs.declared.config.Interface.{Interface}
use Rattle.ospf_types.specs.declared.entry.Vertex.TheVariants.{Router}
use Rattle.ospf_types.specs.declared.hop.NextHop.{NextHop}
use Rattle.ospf_types.specs.declared.hop.NextHop.TheVariants.{Direct}
use Rattle.ospf_types.specs.declared.hop.Path.{Path}
use Rattle.ospf_types.specs.declared.prefix.Prefix.{Prefix}
use Rattle.ospf_types.specs.Hops.{path_cmp}
use Rattle.ospf_types.specs.Intra.{AreaCost, area_cost_cmp, LiesIn, inside_area}
use Rattle.intra.specs.declared.area_index.PrefixSource.{PrefixSource}
use Rattle.intra.specs.declared.choose.ReachedNetwork.{ReachedNetwork}
use Rattle.route_choice.specs.Choices.{Chosen}
use Rattle.intra.specs.Indexes.{IndexedOffers}
use Rattle.intra.specs.Inputs.{AreaValue, InputsValue}
use Rattle.intra.specs.Intras.{AreaIntraValue}
use Rattle.intra.specs.Offers.{Offering, IsReachedFor, IsNearest, KeyedOffers, OffersTransit, OffersStub, OffersOwn}
use Rattle.route_choice.specs.Takes.{TakesOffers, OnlyOffer, OfferedBySome}

-- just these offers of paths were taken
abbrev pub TakesPaths : (AreaCost → Path → Type 0) → Option (Chosen AreaCost Path) → Option (Chosen AreaCost Path) → Type 0
TakesPaths offers old new = TakesOffers area_cost_cmp path_cmp offers old new

-- all that the areas offer to a network, by what is kept of them
abbrev pub IndexOffers : InputsValue → List AreaIntraValue → Prefix → AreaCost → Path → Type 0
IndexOffers v kept p = IndexedOffers v (map (λ (a : AreaIntraValue). a.index) kept) v.areas p

-- the sources of one prefix offer it
abbrev pub AmongSources : List PrefixSource → Offering
AmongSources sources v p metric = Contains sources (record { vertex = v; metric = metric })

-- only one source offers it
abbrev pub ThisSource : PrefixSource → Offering
ThisSource source v p metric = source ≡ record { vertex = v; metric = metric }

-- what an area offers by stub links, at its cost in that area
abbrev pub KeyedStubs : Offering → InputsValue → AreaValue → Prefix → AreaCost → Path → Type 0
KeyedStubs offered v a p key path = (key.1 ≡ a.id) × (OffersStub offered v.root a p key.0 path ⊎ OffersOwn offered v a p key.0 path)

-- what it offers as a transit network
abbrev pub KeyedTransit : Offering → AreaValue → Prefix → AreaCost → Path → Type 0
KeyedTransit offered a p key path = (key.1 ≡ a.id) × OffersTransit offered a p key.0 path

-- what these sources of an area offer to a network
abbrev pub SourcesOffer : List PrefixSource → InputsValue → AreaValue → Prefix → AreaCost → Path → Type 0
SourcesOffer sources v a p = KeyedOffers (AmongSources sources) v a p

-- what one source of an area offers by stub links
abbrev pub StubOffers : PrefixSource → InputsValue → AreaValue → Prefix → AreaCost → Path → Type 0
StubOffers source v a p = KeyedStubs (ThisSource source) v a p

-- what these sources of an area offer as transit networks
abbrev pub TransitOffers : List PrefixSource → AreaValue → Prefix → AreaCost → Path → Type 0
TransitOffers sources a p = KeyedTransit (AmongSources sources) a p

-- the source that a stub link of a router is
abbrev pub router_source : ℕ → ℕ → PrefixSource
router_source router metric = record { vertex = Router router; metric = metric }

-- a path over each of these next hops
abbrev pub HopsOffer : List NextHop → AreaCost → AreaCost → Path → Type 0
HopsOffer hops at = OfferedBySome hops (λ h. OnlyOffer at (inside_area h))

-- the interface is one of the area, is up, and lies in the network
pub record IsOver (area : ℕ) (p : Prefix) (i : Interface) : Type 0 where
  pub here : i.area ≡ area
  pub up : IsTrue i.up
  pub inside : LiesIn i p

-- a path over the interface, where it is one of the area, up and in the network
abbrev pub InterfaceOffers : Prefix → AreaCost → ℕ × Interface → AreaCost → Path → Type 0
InterfaceOffers p at e key path = IsOver at.1 p e.1 × OnlyOffer at (inside_area (Direct e.0)) key path

-- a path over each of these interfaces that is one of the area, up and in the network
abbrev pub InterfacesOffer : List (ℕ × Interface) → Prefix → AreaCost → AreaCost → Path → Type 0
InterfacesOffer interfaces p at = OfferedBySome interfaces (InterfaceOffers p at)

-- the transit network that stands for the prefix with its distance, or `None` if none is reached
abbrev pub FindsNearest : Offering → AreaValue → Prefix → Option ReachedNetwork → Type 0
FindsNearest offered a p None = (id distance : ℕ) → IsReachedFor offered a p id distance → ⊥
FindsNearest offered a p (Some found) = IsNearest offered a p found.id found.distance

-- with one more source the nearest transit network is the one that is found, whichever sources came
-- before
abbrev pub FindsNearestWith : AreaValue → PrefixSource → Option ReachedNetwork → Option ReachedNetwork → Type 0
FindsNearestWith a source nearest found =
    (before : List PrefixSource) (p : Prefix) → FindsNearest (AmongSources before) a p nearest → FindsNearest (AmongSources (before ++ source ∷ [])) a p found

-- of two networks, each a number and a distance: the first is the nearer, or at one distance has
-- the greater number, or is the second
pub record IsNoFarther (a b : ReachedNetwork) : Type 0 where
  pub near : a.distance ≤ b.distance
  pub great : a.distance ≡ b.distance → b.id ≤ a.id
