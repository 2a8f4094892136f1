-- How an index changes as the offers of a vertex are taken out and put in.
use Rattle.std.specs.Prelude.{ℕ, ◌≡◌, ◌≢◌, ◌↔◌, ◌⊎◌, List, Contains}
use Rattle.std.specs.FinMap.{get}
use Rattle.ospf_types.specs.declared.entry.Vertex.{Vertex}
use Rattle.ospf_types.specs.declared.prefix.Prefix.{Prefix}
use Rattle.intra.specs.declared.area_index.PrefixSource.{PrefixSource}
use Rattle.intra.specs.declared.offered.OfferedPrefix.{OfferedPrefix}
use Rattle.intra.specs.Indexes.{IndexValue, IsSource}

-- these vertices no longer offer these prefixes, and all else is offered as before
abbrev pub AreOffersGone : (Vertex → Prefix → Type 0) → IndexValue → IndexValue → Type 0
AreOffersGone gone old new = (w : Vertex) (p : Prefix) (metric : ℕ) → IsSource new w p metric ↔ (IsSource old w p metric × (gone w p → ⊥))

-- this is offered too
abbrev pub HaveOffersCome : (Vertex → Prefix → ℕ → Type 0) → IndexValue → IndexValue → Type 0
HaveOffersCome come old new = (w : Vertex) (p : Prefix) (metric : ℕ) → IsSource new w p metric ↔ (IsSource old w p metric ⊎ come w p metric)

-- the prefix of one of these offers, by this vertex
abbrev pub IsPrefixOf : Vertex → List OfferedPrefix → Vertex → Prefix → Type 0
IsPrefixOf v offers w p = (w ≡ v) × ((metric : ℕ) × Contains offers (record { prefix = p; metric = metric }))

-- one of these offers, by this vertex
abbrev pub IsOfferOf : Vertex → List OfferedPrefix → Vertex → Prefix → ℕ → Type 0
IsOfferOf v offers w p metric = (w ≡ v) × Contains offers (record { prefix = p; metric = metric })

-- this offer, by this vertex
abbrev pub IsThisOffer : Vertex → OfferedPrefix → Vertex → Prefix → ℕ → Type 0
IsThisOffer v offer w p metric = (w ≡ v) × (p ≡ offer.prefix) × (metric ≡ offer.metric)

-- all other vertices offer what they offered
abbrev pub OtherVerticesStay : IndexValue → IndexValue → Vertex → Type 0
OtherVerticesStay old new v = (w : Vertex) → w ≢ v → get new.offered w ≡ get old.offered w

-- the sources of the vertex are left out
abbrev pub AreLeftOut : List PrefixSource → List PrefixSource → Vertex → Type 0
AreLeftOut old new v = (w : Vertex) (metric : ℕ) → Contains new (record { vertex = w; metric = metric }) ↔ (Contains old (record { vertex = w; metric = metric }) × (w ≢ v))

-- the two offers are the same, or both their prefixes are named
abbrev pub AreSameOrNamed : OfferedPrefix → OfferedPrefix → List Prefix → Type 0
AreSameOrNamed one other named = (one ≡ other) ⊎ (Contains named one.prefix × Contains named other.prefix)

-- both lists offer each prefix alike that is not named
abbrev pub AreAlike : List Prefix → List OfferedPrefix → List OfferedPrefix → Type 0
AreAlike named before after = (p : Prefix) (metric : ℕ) → (Contains named p → ⊥) → Contains before (record { prefix = p; metric = metric }) ↔ Contains after (record { prefix = p; metric = metric })
