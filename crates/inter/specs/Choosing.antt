-- How an entry is chosen by the index: from what is advertised under the keys that lead to the
-- destination.
use Rattle.std.specs.Prelude.{ℕ, ◌+◌, ◌≡◌, List, Option, Some, None}
use Rattle.std.specs.FinMap.{get}
use Rattle.std.specs.Ordering.{nat_cmp}
use Rattle.ospf_types.specs.declared.entry.Entry.{Entry}
use Rattle.ospf_types.specs.declared.hop.NextHop.{NextHop}
use Rattle.ospf_types.specs.declared.hop.Path.{Path}
use Rattle.ospf_types.specs.declared.key.Dest.{Dest}
use Rattle.ospf_types.specs.declared.key.Key.{Key}
use Rattle.ospf_types.specs.Hops.{path_cmp}
use Rattle.ospf_types.specs.Inter.{through}
use Rattle.ospf_types.specs.Intra.{B}
use Rattle.route_choice.specs.Choices.{Chosen}
use Rattle.intra.specs.Intras.{AreaIntraValue, reached_at}
use Rattle.intra.specs.ReachedRouter.{HandsOut}
use Rattle.route_choice.specs.Takes.{TakesOffers, OnlyOffer, OfferedBySome}
use Rattle.advertised_index.specs.AdvertisedRoute.{AdvertisedValue}
use Rattle.advertised_index.specs.Indexes.{OfferIndexValue}
use Rattle.inter.specs.Inputs.{InterInputsValue, examined_area}
use Rattle.inter.specs.Inters.{IsEntryFor}
use Rattle.inter.specs.Offers.{OffersBy}

-- ---- the entry

-- the index has this under the key
abbrev pub IsListed : OfferIndexValue → Key → AdvertisedValue → Type 0
IsListed i k a = get i.routes k ≡ Some a

-- the entry is the best of what the index says
abbrev pub IsChosenIn : InterInputsValue → ℕ → OfferIndexValue → Dest → Option Entry → Type 0
IsChosenIn v area i d e = IsEntryFor area (OffersBy v area (IsListed i) d) e

-- the entry by the index of the examined area, or `None` if no area is examined
abbrev pub IsChosenWhere : InterInputsValue → Option ℕ → OfferIndexValue → Dest → Option Entry → Type 0
IsChosenWhere v None i d e = e ≡ None
IsChosenWhere v (Some area) i d e = IsChosenIn v area i d e

abbrev pub IsChosenFor : InterInputsValue → OfferIndexValue → Dest → Option Entry → Type 0
IsChosenFor v i d e = IsChosenWhere v (examined_area v) i d e

-- ---- what is offered, part by part

-- just these offers of paths were taken
abbrev pub TakesPaths : (ℕ → Path → Type 0) → Option (Chosen ℕ Path) → Option (Chosen ℕ Path) → Type 0
TakesPaths offers old new = TakesOffers nat_cmp path_cmp offers old new

-- what is advertised under the key, over each next hop of its border router
abbrev pub KeyOffers : List AreaIntraValue → ℕ → OfferIndexValue → Key → ℕ → Path → Type 0
KeyOffers areas area i k cost path = (a : AdvertisedValue) × (distance : ℕ) × (h : NextHop)
    × IsListed i k a × HandsOut B (reached_at areas area k.router) distance h × (cost ≡ distance + a.metric) × (path ≡ through k.router h)

-- what is advertised under each of these keys
abbrev pub KeysOffer : List Key → List AreaIntraValue → ℕ → OfferIndexValue → ℕ → Path → Type 0
KeysOffer keys areas area i = OfferedBySome keys (KeyOffers areas area i)

-- a path by the advertiser over each of these next hops
abbrev pub HopsOffer : List NextHop → ℕ → ℕ → ℕ → Path → Type 0
HopsOffer hops advertiser at = OfferedBySome hops (λ h. OnlyOffer at (through advertiser h))
