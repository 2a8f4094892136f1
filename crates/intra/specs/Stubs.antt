-- The offers of a link of a router-LSA, and of a network-LSA.
use Rattle.std.specs.Prelude.{ℕ, ◌↔◌, List, [], ◌∷◌, Contains, Option, Some, None}
use Rattle.std.specs.List.{filter_map}
use Rattle.ospf_types.specs.declared.lsa.Link.{Link}
use Rattle.ospf_types.specs.declared.lsa.LinkKind.{LinkKind}
use Rattle.ospf_types.specs.declared.lsa.LinkKind.TheVariants.{PointToPoint, Transit, Stub, Virtual}
use Rattle.ospf_types.specs.declared.prefix.Prefix.{Prefix}
use Rattle.ospf_types.specs.Lsa.{Body, RouterLink, network_of}
use Rattle.lsa_codec.specs.Readers.{links_of, without_tos}
use Rattle.intra.specs.declared.offered.OfferedPrefix.{OfferedPrefix}

abbrev pub offer_by : LinkKind → Link → Option OfferedPrefix
offer_by Stub l = Some (record { prefix = network_of l.id l.detail; metric = l.metric })
offer_by PointToPoint l = None
offer_by Transit l = None
offer_by Virtual l = None

-- a stub link offers its network
abbrev pub offer_of_link : Link → Option OfferedPrefix
offer_of_link l = offer_by l.kind l

-- a stub link with TOS entries offers its network, whatever they are
abbrev pub stub_of_link : RouterLink → Option OfferedPrefix
stub_of_link l = offer_of_link (without_tos l)

-- the stub networks of a router-LSA, link by link
abbrev pub stubs_of : Body → List OfferedPrefix
stubs_of body = filter_map stub_of_link (links_of body)

-- both lists have the same offers
abbrev pub HaveSameOffers : List OfferedPrefix → List OfferedPrefix → Type 0
HaveSameOffers xs ys = (o : OfferedPrefix) → Contains xs o ↔ Contains ys o

-- a list has all that was in it before
abbrev pub KeepsAll : {A : Type 0} → List A → List A → Type 0
KeepsAll {A} before after = (x : A) → Contains before x → Contains after x

-- the prefixes of these offers are there
abbrev pub HasPrefixesOf : List OfferedPrefix → List Prefix → Type 0
HasPrefixesOf offers prefixes = (p : Prefix) (metric : ℕ) → Contains offers (record { prefix = p; metric = metric }) → Contains prefixes p

-- a network-LSA offers its network at no further metric
abbrev pub transit_offers : Option Prefix → List OfferedPrefix
transit_offers None = []
transit_offers (Some p) = record { prefix = p; metric = 0 } ∷ []
