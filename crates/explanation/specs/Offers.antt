-- The offers that LSAs make of networks (RFC 2328, A.4), as they are explained.
use Rattle.std.specs.Prelude.{ℕ, ◌≡◌, ◌<◌, ◌==◌, Bool, List, length, get_or, ◌++◌, Option, Some, None, if◌then◌else◌, option_to_list}
use Rattle.std.specs.List.{filter_map, flat_map, list_any}
use Rattle.ospf_types.specs.declared.key.Scope.{Scope}
use Rattle.ospf_types.specs.declared.lsa.ExternalFields.{ExternalFields}
use Rattle.ospf_types.specs.declared.lsa.Link.{Link}
use Rattle.ospf_types.specs.declared.lsa.LinkKind.{LinkKind}
use Rattle.ospf_types.specs.declared.lsa.LinkKind.TheVariants as link
use Rattle.ospf_types.specs.declared.prefix.Prefix.{Prefix}
use Rattle.ospf_types.specs.Lsa.{Lsa, key_of, network_of}
use Rattle.ospf_types.specs.Masks.{masked}
use Rattle.ospf_types.specs.RangeChanges.{is_same_prefix}
use Rattle.lsa_codec.specs.Readers.{links_of, without_tos, prefix_of, metric_of, external_of}
use Rattle.ospf_types.specs.Lsa.{RouterLink}
use Rattle.explanation.specs.declared.offer.LsaInstance.{LsaInstance}
use Rattle.explanation.specs.declared.offer.Offer.{Offer}
use Rattle.explanation.specs.declared.offer.OfferKind.{OfferKind}
use Rattle.explanation.specs.declared.offer.OfferKind.TheVariants.{Stub, Transit, Summary, AsExternal}
use Rattle.explanation.specs.declared.offers.Wanted.{Wanted}
use Rattle.explanation.specs.declared.offers.Wanted.TheVariants.{Around, Among}

-- the instance, and the database that has it
abbrev pub source_of : Scope → Lsa → LsaInstance
source_of scope l = record { scope = scope; key = key_of l; seq = l.header.seq }

-- ---- the networks that LSAs are asked for

-- the network contains the address
abbrev pub is_around : ℕ → Prefix → Bool
is_around address p = masked address p.length == p.address

-- the network is one of these
abbrev pub is_one_of : List Prefix → Prefix → Bool
is_one_of networks p = list_any (λ q. is_same_prefix q p) networks

-- the index of the network in this list
abbrev pub IsPlaceOf : List Prefix → Prefix → ℕ → Type 0
IsPlaceOf networks p place = (place < length networks) × ((d : Prefix) → get_or networks place d ≡ p)

abbrev pub is_wanted : Wanted → Prefix → Bool
is_wanted (Around address) p = is_around address p
is_wanted (Among networks) p = is_one_of networks.now p

-- ---- what LSAs offer of the networks at which a test gives true

-- the LSA offers the network in this trace, if the network is wanted
abbrev pub offer_if : (Prefix → Bool) → Scope → Lsa → Prefix → OfferKind → Option Offer
offer_if wanted scope l p kind = if wanted p then Some (record { network = p; source = source_of scope l; age = l.header.age; kind = kind }) else None

-- a stub link offers its network
abbrev pub stub_by : LinkKind → (Prefix → Bool) → Scope → Lsa → Link → Option Offer
stub_by link.Stub wanted scope l k = offer_if wanted scope l (network_of k.id k.detail) (Stub k.metric)
stub_by link.PointToPoint wanted scope l k = None
stub_by link.Transit wanted scope l k = None
stub_by link.Virtual wanted scope l k = None

abbrev pub stub_if : (Prefix → Bool) → Scope → Lsa → Link → Option Offer
stub_if wanted scope l k = stub_by k.kind wanted scope l k

-- with a metric the LSA is a summary or external, else it is the transit network's
abbrev pub kind_by : Option ℕ → Option ExternalFields → OfferKind
kind_by None external = Transit
kind_by (Some metric) None = Summary metric
kind_by (Some metric) (Some external) = AsExternal metric external

abbrev pub own_kind : Lsa → OfferKind
own_kind l = kind_by (metric_of l.body) (external_of l.body)

-- the network of the LSA, if it has one
abbrev pub own_by : Option Prefix → (Prefix → Bool) → Scope → Lsa → Option Offer
own_by None wanted scope l = None
own_by (Some p) wanted scope l = offer_if wanted scope l p (own_kind l)

abbrev pub own_if : (Prefix → Bool) → Scope → Lsa → Option Offer
own_if wanted scope l = own_by (prefix_of l) wanted scope l

-- the offers of its stub links, in their order
abbrev pub stubs_of : (Prefix → Bool) → Scope → Lsa → List Offer
stubs_of wanted scope l = filter_map (λ (k : RouterLink). stub_if wanted scope l (without_tos k)) (links_of l.body)

-- the offers of the LSA for these networks: by its stub links, or its own network
abbrev pub offers_of : (Prefix → Bool) → Scope → Lsa → List Offer
offers_of wanted scope l = stubs_of wanted scope l ++ option_to_list (own_if wanted scope l)

-- the offers of these LSAs, in their order
abbrev pub offers_among : (Prefix → Bool) → Scope → List Lsa → List Offer
offers_among wanted scope lsas = flat_map (offers_of wanted scope) lsas
