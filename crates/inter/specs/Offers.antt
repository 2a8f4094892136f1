-- What summaries of the examined area offer to a destination (RFC 2328, 16.2).
use Rattle.std.specs.Prelude.{ℕ, ◌+◌, ◌≡◌, ◌⊎◌, List, IsSome, Some}
use Rattle.std.specs.FinMap.{get}
use Rattle.ospf_types.specs.declared.hop.NextHop.{NextHop}
use Rattle.ospf_types.specs.declared.hop.Path.{Path}
use Rattle.ospf_types.specs.declared.key.Dest.{Dest}
use Rattle.ospf_types.specs.declared.key.Dest.TheVariants.{Net, Router}
use Rattle.ospf_types.specs.declared.key.Key.{Key}
use Rattle.ospf_types.specs.declared.key.Scope.TheVariants.{Area}
use Rattle.ospf_types.specs.Inter.{through}
use Rattle.ospf_types.specs.Intra.{B, E}
use Rattle.lsdb.specs.Contents.{body_at}
use Rattle.intra.specs.Intras.{AreaIntraValue, reached_at}
use Rattle.intra.specs.ReachedRouter.{HandsOut}
use Rattle.advertised_index.specs.AdvertisedRoute.{AdvertisedValue, advertised_at}
use Rattle.active_ranges.specs.Active.{IsActiveIn}
use Rattle.inter.specs.Inputs.{ExaminedValue, InterInputsValue}

-- what is advertised under the key offers the distance of its border router and its metric, over
-- that router's next hops
abbrev pub SummaryOffers : InterInputsValue → ℕ → Key → AdvertisedValue → ℕ → Path → Type 0
SummaryOffers v area k a cost path = (distance : ℕ) × (h : NextHop)
    × HandsOut B (reached_at v.intra.areas area k.router) distance h × (cost ≡ distance + a.metric) × (path ≡ through k.router h)

-- the router is reached in the area as an AS boundary router
abbrev pub IsBoundaryIn : List AreaIntraValue → ℕ → ℕ → Type 0
IsBoundaryIn areas area router = (distance : ℕ) × (h : NextHop) × HandsOut E (reached_at areas area router) distance h

-- what is preferred to summaries: for a network an intra-area route and an active range, for a
-- router that it is reached as AS boundary router in the area
abbrev pub IsTakenBelow : InterInputsValue → ℕ → Dest → Type 0
IsTakenBelow v area (Net p) = IsSome (get v.intra.entries p) ⊎ IsActiveIn v.active p
IsTakenBelow v area (Router r) = IsBoundaryIn v.intra.areas area r

-- over any relation that says what is advertised under which key
abbrev pub OffersBy : InterInputsValue → ℕ → (Key → AdvertisedValue → Type 0) → Dest → ℕ → Path → Type 0
OffersBy v area advertised d cost path = (k : Key) × (a : AdvertisedValue)
    × advertised k a × (a.dest ≡ d) × (IsTakenBelow v area d → ⊥) × SummaryOffers v area k a cost path

-- the area's LSA under the key advertises this
abbrev pub IsAdvertised : ℕ → ExaminedValue → Key → AdvertisedValue → Type 0
IsAdvertised root x k a = advertised_at root (Area x.area) k (body_at x.lsas k) ≡ Some a

-- all that is offered to a destination
abbrev pub OffersOf : InterInputsValue → ExaminedValue → Dest → ℕ → Path → Type 0
OffersOf v x d cost path = OffersBy v x.area (IsAdvertised v.root x) d cost path
