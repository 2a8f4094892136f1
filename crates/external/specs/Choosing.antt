-- The offers to the choice of a preferred entry or of an external route, part by part.
use Rattle.std.specs.Prelude.{ℕ, ◌≡◌, Bool, List, Option, Some}
use Rattle.std.specs.FinMap.{get}
use Rattle.ospf_types.specs.declared.hop.NextHop.{NextHop}
use Rattle.ospf_types.specs.declared.hop.Path.{Path}
use Rattle.ospf_types.specs.declared.key.Dest.TheVariants.{Net}
use Rattle.ospf_types.specs.declared.key.Key.{Key}
use Rattle.ospf_types.specs.declared.prefix.Prefix.{Prefix}
use Rattle.ospf_types.specs.Boundary.{Preference, preference_cmp, class_of}
use Rattle.ospf_types.specs.External.{ExternalPreference, external_cmp}
use Rattle.ospf_types.specs.Hops.{hop_cmp, path_cmp}
use Rattle.ospf_types.specs.Inter.{through}
use Rattle.ospf_types.specs.Intra.{E}
use Rattle.route_choice.specs.Choices.{Chosen}
use Rattle.intra.specs.ReachedRouter.{ReachedValue, HandsOut}
use Rattle.route_choice.specs.Takes.{TakesOffers, OnlyOffer, OfferedBySome}
use Rattle.advertised_index.specs.AdvertisedRoute.{AdvertisedValue}
use Rattle.advertised_index.specs.Indexes.{AdvertisedByKey, OfferIndexValue, IsInGroup}
use Rattle.advertised_index.specs.declared.index_key.IndexKey.TheVariants.{To}
use Rattle.external.specs.Inputs.{ExternalInputsValue}
use Rattle.external.specs.AsbrRoute.{PreferredByRouter, ReachedOffers}
use Rattle.external.specs.Forwards.{ForwardsByAddress}
use Rattle.external.specs.Offers.{AdvertisedOffers, preference_of}

-- just these offers of next hops were taken
abbrev pub TakesHops : (Preference → NextHop → Type 0) → Option (Chosen Preference NextHop) → Option (Chosen Preference NextHop) → Type 0
TakesHops offers old new = TakesOffers preference_cmp hop_cmp offers old new

-- each of these next hops
abbrev pub HopsOffer : List NextHop → Preference → Preference → NextHop → Type 0
HopsOffer hops at = OfferedBySome hops (OnlyOffer at)

-- what is kept of the router in the area offers it, if it is an AS boundary router
abbrev pub AsbrOffers : Bool → ℕ → Option ReachedValue → Preference → NextHop → Type 0
AsbrOffers compat area reached preference h = (preference.area ≡ area) × (preference.class ≡ class_of compat (Some area)) × HandsOut E reached preference.cost h

-- each area where the router is reached as AS boundary router
abbrev pub AreasOffer : ExternalInputsValue → ℕ → Preference → NextHop → Type 0
AreasOffer v router = OfferedBySome v.areas (ReachedOffers v router)

-- just these offers of paths were taken
abbrev pub TakesPaths : (ExternalPreference → Path → Type 0) → Option (Chosen ExternalPreference Path) → Option (Chosen ExternalPreference Path) → Type 0
TakesPaths offers old new = TakesOffers external_cmp path_cmp offers old new

-- a path by the router over each of these next hops
abbrev pub PathsOffer : List NextHop → ℕ → ExternalPreference → ExternalPreference → Path → Type 0
PathsOffer hops router at = OfferedBySome hops (λ h. OnlyOffer at (through router h))

-- what is advertised under a key offers these next hops at this distance
abbrev pub LeadsOffer : (ℕ → ℕ → NextHop → Type 0) → ℕ → AdvertisedValue → ExternalPreference → Path → Type 0
LeadsOffer leads router a preference path = (class x : ℕ) × (h : NextHop) × leads class x h × (preference ≡ preference_of a class x) × (path ≡ through router h)

-- what is advertised under the key, if anything, offers this
abbrev pub KeyOffers : AdvertisedByKey → PreferredByRouter → ForwardsByAddress → Key → ExternalPreference → Path → Type 0
KeyOffers routes preferred forwards k preference path = (a : AdvertisedValue) × (get routes k ≡ Some a)
    × AdvertisedOffers (get preferred k.router) (get forwards a.forwarding) k a preference path

-- what is advertised under each of these keys
abbrev pub KeysOffer : List Key → AdvertisedByKey → PreferredByRouter → ForwardsByAddress → ExternalPreference → Path → Type 0
KeysOffer keys routes preferred forwards = OfferedBySome keys (KeyOffers routes preferred forwards)

-- what is advertised to the network offers this
abbrev pub NetworkOffers : OfferIndexValue → PreferredByRouter → ForwardsByAddress → Prefix → ExternalPreference → Path → Type 0
NetworkOffers i preferred forwards p preference path = (k : Key) × IsInGroup i (To (Net p)) k × KeyOffers i.routes preferred forwards k preference path
