-- What AS-external-LSAs offer to a network (RFC 2328, 16.4), by where AS boundary routers and
-- forwarding addresses lead.
use Rattle.std.specs.Prelude.{ℕ, ◌+◌, ◌≡◌, ◌<◌, ◌⊎◌, Contains, Option, Some, None, IsSome, if◌then◌else◌}
use Rattle.std.specs.FinMap.{get}
use Rattle.ospf_types.specs.declared.hop.NextHop.{NextHop}
use Rattle.ospf_types.specs.declared.hop.Path.{Path}
use Rattle.ospf_types.specs.declared.key.Dest.TheVariants.{Net}
use Rattle.ospf_types.specs.declared.key.Key.{Key}
use Rattle.ospf_types.specs.declared.key.Scope.TheVariants.{As}
use Rattle.ospf_types.specs.declared.prefix.Prefix.{Prefix}
use Rattle.ospf_types.specs.External.{ExternalPreference}
use Rattle.ospf_types.specs.Inter.{through}
use Rattle.lsdb.specs.Contents.{body_at}
use Rattle.advertised_index.specs.AdvertisedRoute.{AdvertisedValue, advertised_at}
use Rattle.external.specs.Inputs.{ExternalInputsValue}
use Rattle.external.specs.AsbrRoute.{PreferredValue, PreferredByRouter}
use Rattle.external.specs.Forwards.{ForwardValue, ForwardsByAddress, WayOffers, internal_entry}

-- type 1 before type 2, the metric Y of type 2, the class, and then X + Y for type 1 and X for type
-- 2
abbrev pub preference_of : AdvertisedValue → ℕ → ℕ → ExternalPreference
preference_of a class x =
    if a.is_type_2 then record { kind = 2; metric = a.metric; class = class; cost = x }
    else record { kind = 1; metric = 0; class = class; cost = x + a.metric }

abbrev pub PreferredLeads : Option PreferredValue → ℕ → ℕ → NextHop → Type 0
PreferredLeads None class x h = ⊥
PreferredLeads (Some w) class x h = (w.preference.class ≡ class) × (w.preference.cost ≡ x) × Contains w.hops h

abbrev pub ForwardLeads : Option ForwardValue → ℕ → ℕ → NextHop → Type 0
ForwardLeads None class x h = ⊥
ForwardLeads (Some f) class x h = WayOffers f.way class x h

-- the distance X, its class and its next hops: those of the AS boundary router, or of the
-- forwarding address where there is one
abbrev pub LeadsOnward : Option PreferredValue → Option ForwardValue → ℕ → ℕ → ℕ → NextHop → Type 0
LeadsOnward preferred forward address class x h =
    ((address ≡ 0) × PreferredLeads preferred class x h)
    ⊎ ((0 < address) × ForwardLeads forward class x h)

-- what is advertised under the key offers this, where its AS boundary router has an entry
abbrev pub AdvertisedOffers : Option PreferredValue → Option ForwardValue → Key → AdvertisedValue → ExternalPreference → Path → Type 0
AdvertisedOffers preferred forward k a preference path = (class x : ℕ) × (h : NextHop)
    × IsSome preferred × LeadsOnward preferred forward a.forwarding class x h
    × (preference ≡ preference_of a class x) × (path ≡ through k.router h)

-- all that is offered to a network by what is advertised, where routers and addresses lead as these
-- maps say
abbrev pub OffersBy : ExternalInputsValue → PreferredByRouter → ForwardsByAddress → (Key → AdvertisedValue → Type 0) → Prefix → ExternalPreference → Path → Type 0
OffersBy v preferred forwards advertised p preference path = (k : Key) × (a : AdvertisedValue)
    × advertised k a × (a.dest ≡ Net p) × (internal_entry v p ≡ None)
    × AdvertisedOffers (get preferred k.router) (get forwards a.forwarding) k a preference path

-- the LSA under the key advertises this
abbrev pub IsAdvertised : ExternalInputsValue → Key → AdvertisedValue → Type 0
IsAdvertised v k a = advertised_at v.root As k (body_at v.lsas k) ≡ Some a

-- all that is offered to a network
abbrev pub OffersOf : ExternalInputsValue → PreferredByRouter → ForwardsByAddress → Prefix → ExternalPreference → Path → Type 0
OffersOf v preferred forwards p preference path = OffersBy v preferred forwards (IsAdvertised v) p preference path
