-- The index of an area: what each vertex offers, and who offers each prefix.
use Rattle.std.specs.Prelude.{ℕ, ◌≡◌, ◌≢◌, ◌↔◌, ◌⊎◌, List, [], ◌∷◌, Contains, Option, Some, None}
use Rattle.std.specs.List.{AllPairs}
use Rattle.std.specs.FinMap.{FinMap, empty, get}
use Rattle.ospf_types.specs.declared.entry.Vertex.{Vertex}
use Rattle.ospf_types.specs.declared.hop.Path.{Path}
use Rattle.ospf_types.specs.declared.prefix.Prefix.{Prefix}
use Rattle.ospf_types.specs.Intra.{AreaCost}
use Rattle.ospf_types.specs.Lsa.{Body, Lsa}
use Rattle.ospf_types.specs.Network.{network_cmp}
use Rattle.ospf_types.specs.Vertices.{vertex_cmp}
use Rattle.lsa_codec.specs.Readers.{flags_of}
use Rattle.lsdb.specs.Databases.{Database}
use Rattle.area_trees.specs.Areas.{IsStanding}
use Rattle.intra.specs.declared.offered.OfferedPrefix.{OfferedPrefix}
use Rattle.intra.specs.declared.area_index.PrefixSource.{PrefixSource}
use Rattle.intra.specs.Inputs.{AreaValue, InputsValue}
use Rattle.intra.specs.Offers.{Offering, BodyOffers, KeyedOffers}

-- the bits of a router-LSA, 0 for a network, and the prefixes with their metrics
pub record OfferedValue : Type 0 where
  pub flags : ℕ
  pub offers : List OfferedPrefix

abbrev pub OfferedByVertex : Type 0
OfferedByVertex = FinMap vertex_cmp OfferedValue

abbrev pub SourcesByPrefix : Type 0
SourcesByPrefix = FinMap network_cmp (List PrefixSource)

pub record IndexValue : Type 0 where
  pub offered : OfferedByVertex
  pub sources : SourcesByPrefix

abbrev pub offers_of : Option OfferedValue → List OfferedPrefix
offers_of None = []
offers_of (Some o) = o.offers

abbrev pub sources_of : Option (List PrefixSource) → List PrefixSource
sources_of None = []
sources_of (Some sources) = sources

-- no prefix is kept without a source, or with one twice
abbrev pub AreSourceLists : SourcesByPrefix → Type 0
AreSourceLists sources = (p : Prefix) (list : List PrefixSource) → get sources p ≡ Some list → (list ≢ []) × AllPairs (λ a b. a ≢ b) list

-- the vertex is among those that offer the prefix
abbrev pub IsSource : IndexValue → Offering
IsSource i v p metric = Contains (sources_of (get i.sources p)) (record { vertex = v; metric = metric })

-- the bits of a body; those of a network are 0
abbrev pub bits_of : Option ℕ → ℕ
bits_of None = 0
bits_of (Some flags) = flags

-- what the vertex offers by an LSA of this body
pub record IsOfferedBy (v : Vertex) (body : Body) (o : OfferedValue) : Type 0 where
  pub flags : o.flags ≡ bits_of (flags_of body)
  pub exact : (p : Prefix) (metric : ℕ) → Contains o.offers (record { prefix = p; metric = metric }) ↔ BodyOffers v body p metric

-- the body of the LSA that stands for a vertex, if there is one
abbrev pub body_of : Option Lsa → Option Body
body_of None = None
body_of (Some lsa) = Some lsa.body

abbrev pub IsOfferedFor : Vertex → Option Body → Option OfferedValue → Type 0
IsOfferedFor v (Some body) (Some o) = IsOfferedBy v body o
IsOfferedFor v (Some body) None = ⊥
IsOfferedFor v None o = o ≡ None

-- what represents a vertex in an index is what the LSA that stands for it offers
abbrev pub IsOfferedNow : Vertex → Option Lsa → Option OfferedValue → Type 0
IsOfferedNow v standing offered = IsOfferedFor v (body_of standing) offered

-- the index of no LSAs
abbrev pub empty_index : IndexValue
empty_index = record { offered = empty; sources = empty }

-- the vertex offers nothing
abbrev pub OffersNothing : IndexValue → Vertex → Type 0
OffersNothing i v = (p : Prefix) (metric : ℕ) → IsSource i v p metric → ⊥

-- who offers a prefix is just who has it among what it offers
abbrev pub IsIndex : IndexValue → Type 0
IsIndex i = (v : Vertex) (p : Prefix) (metric : ℕ) → IsSource i v p metric ↔ Contains (offers_of (get i.offered v)) (record { prefix = p; metric = metric })

-- the index belongs to the database
pub record IsAreaIndexOf (d : Database) (i : IndexValue) : Type 0 where
  pub index : IsIndex i
  pub offered : (v : Vertex) → (body : Option Body) × IsStanding d v body × IsOfferedFor v body (get i.offered v)

-- all that is offered to a network, by the indexes of the areas
abbrev pub IndexedOffers : InputsValue → List IndexValue → List AreaValue → Prefix → AreaCost → Path → Type 0
IndexedOffers v (i ∷ is) (a ∷ rest) p key path = KeyedOffers (IsSource i) v a p key path ⊎ IndexedOffers v is rest p key path
IndexedOffers v [] [] p key path = ⊥
IndexedOffers v [] (a ∷ rest) p key path = ⊥
IndexedOffers v (i ∷ is) [] p key path = ⊥

-- these prefixes have all that from the one to the other have other sources, and all those of
-- before
pub record ArePrefixesAffected (old new : IndexValue) (before after : List Prefix) : Type 0 where
  pub kept : (p : Prefix) → Contains before p → Contains after p
  pub others : (p : Prefix) → (Contains after p → ⊥) → (v : Vertex) (metric : ℕ) → IsSource new v p metric ↔ IsSource old v p metric
