-- How what is kept of an area follows its LSAs, its tree and the interfaces.
use Rattle.std.specs.Prelude.{ℕ, ◌≡◌, ◌⊎◌, ◌↔◌, ◌≢◌, List, Contains, Option, Some, option_map}
use Rattle.std.specs.FinMap.{get}
use Rattle.ospf_types.specs.declared.entry.Vertex.{Vertex}
use Rattle.ospf_types.specs.declared.entry.Vertex.TheVariants.{Router}
use Rattle.ospf_types.specs.declared.key.Key.{Key}
use Rattle.ospf_types.specs.declared.key.Scope.{Scope}
use Rattle.ospf_types.specs.declared.key.Scope.TheVariants.{Area}
use Rattle.ospf_types.specs.declared.prefix.Prefix.{Prefix}
use Rattle.ospf_types.specs.Lsa.{Body}
use Rattle.lsdb.specs.Databases.{Database}
use Rattle.spf.specs.HandedOn.{IsOfSome}
use Rattle.area_trees.specs.Areas.{body_at, vertex_of, IsStanding}
use Rattle.intra.specs.declared.dirty.Dirty.{Dirty}
use Rattle.intra.specs.Inputs.{AreaValue, distance_at, hops_at}
use Rattle.intra.specs.Indexes.{IndexValue, OfferedValue, IsIndex, IsAreaIndexOf, IsOfferedFor, IsSource, ArePrefixesAffected, offers_of}
use Rattle.intra.specs.Intras.{AreaIntraValue}
use Rattle.intra.specs.ReachedRouter.{ReachedValue, reached_by}

-- ---- the index follows the LSAs

-- no LSA of the area is used otherwise, but for those that are named
abbrev pub LsasDifferAmong : List (Scope × Key) → ℕ → Database → Database → Type 0
LsasDifferAmong keys area before after = (key : Key) → (Contains keys (Area area, key) → ⊥) → body_at after key ≡ body_at before key

-- the index belongs to a database from which this one differs in no more than is named
abbrev pub IsIndexBefore : List (Scope × Key) → Database → AreaIntraValue → Type 0
IsIndexBefore keys after i = (before : Database) × IsAreaIndexOf before i.index × LsasDifferAmong keys i.id before after

-- the key is one of the area, and its LSA can stand for the vertex
abbrev pub NamesVertex : ℕ → Scope × Key → Vertex → Type 0
NamesVertex area named v = (named.0 ≡ Area area) × (vertex_of named.1 ≡ Some v)

-- the vertex has what the LSA that stands for it offers
abbrev pub IsVertexCurrent : Database → IndexValue → Vertex → Type 0
IsVertexCurrent d i v = (body : Option Body) × IsStanding d v body × IsOfferedFor v body (get i.offered v)

-- the index took what the named vertices offer now, and has of the others what it had, or that too
pub record IsIndexUpdated (d : Database) (names : Vertex → Type 0) (old new : AreaIntraValue) (before after : List Prefix) : Type 0 where
  pub id : new.id ≡ old.id
  pub reached : new.reached ≡ old.reached
  pub index : IsIndex new.index
  pub each : (v : Vertex) → IsVertexCurrent d new.index v ⊎ ((get new.index.offered v ≡ get old.index.offered v) × (names v → ⊥))
  pub touched : ArePrefixesAffected old.index new.index before after

-- the first, with the index of the second
abbrev pub with_index_of : AreaIntraValue → AreaIntraValue → AreaIntraValue
with_index_of old new = record { id = old.id; index = new.index; reached = old.reached }

-- ---- the prefixes that may get another entry

-- the list has all of before, and each prefix that such a vertex offers
pub record HasOffered (index : IndexValue) (names : Vertex → Type 0) (before after : List Prefix) : Type 0 where
  pub kept : (p : Prefix) → Contains before p → Contains after p
  pub offered : (v : Vertex) → names v → (p : Prefix) (metric : ℕ) → Contains (offers_of (get index.offered v)) (record { prefix = p; metric = metric }) → Contains after p

-- the vertex is named in the area
abbrev pub NamesIn : ℕ → ℕ × Vertex → Vertex → Type 0
NamesIn area named v = named ≡ (area, v)

-- Only the index followed. The list has all of before, each prefix that has other sources, each
-- that a named vertex offers, and, where an interface is named, each that the root offers.
pub record IsIndexFollowed (root : ℕ) (vertices : List (ℕ × Vertex)) (interfaces : List ℕ) (old new : AreaIntraValue) (before after : List Prefix) : Type 0 where
  pub id : new.id ≡ old.id
  pub reached : new.reached ≡ old.reached
  pub touched : ArePrefixesAffected old.index new.index before after
  pub named : (v : Vertex) → Contains vertices (old.id, v) → (p : Prefix) (metric : ℕ) → IsSource new.index v p metric → Contains after p
  pub own : (id : ℕ) → Contains interfaces id → (p : Prefix) (metric : ℕ) → IsSource new.index (Router root) p metric → Contains after p

-- the prefixes that may get another entry were gathered, for what is dirty
abbrev pub IsGatheredFor : ℕ → Dirty → AreaIntraValue → AreaIntraValue → List Prefix → List Prefix → Type 0
IsGatheredFor root dirty old new before after =
    IsIndexFollowed root dirty.vertices.items dirty.interfaces.items old (with_index_of old new) before after

-- ---- the routers

-- the router is named by its router-LSA
abbrev pub IsRouterOf : ℕ → Scope × Key → ℕ → Type 0
IsRouterOf area named router = NamesVertex area named (Router router)

-- the router is named as a vertex
abbrev pub IsRouterIn : ℕ → ℕ × Vertex → ℕ → Type 0
IsRouterIn area named router = NamesIn area named (Router router)

-- one of the keys names the router
abbrev pub IsAmongKeys : List (Scope × Key) → ℕ → ℕ → Type 0
IsAmongKeys keys area router = IsOfSome keys (NamesVertex area) (Router router)

-- one of the vertices is the router
abbrev pub IsAmongVertices : List (ℕ × Vertex) → ℕ → ℕ → Type 0
IsAmongVertices vertices area router = IsOfSome vertices (NamesIn area) (Router router)

-- the router is named in the area, by its router-LSA or as a vertex
abbrev pub IsRouterNamed : List (Scope × Key) → List (ℕ × Vertex) → ℕ → ℕ → Type 0
IsRouterNamed keys vertices area router = IsAmongKeys keys area router ⊎ IsAmongVertices vertices area router

-- the bits of the vertex's LSA, or `None` if it has no LSA
abbrev pub flags_in : IndexValue → Vertex → Option ℕ
flags_in index v = option_map (λ (o : OfferedValue). o.flags) (get index.offered v)

-- what is to be kept of the router by the index and the tree
abbrev pub router_now : ℕ → AreaValue → IndexValue → ℕ → Option ReachedValue
router_now root a index router =
    reached_by root router (flags_in index (Router router)) (distance_at a (Router router)) (hops_at a (Router router))

-- Only the kept routers followed: the named ones are as they have to be, and the others as before.
-- The list gains just the routers of which something else is kept.
pub record AreRoutersUpdated (root : ℕ) (a : AreaValue) (names : ℕ → Type 0) (old new : AreaIntraValue) (before after : List ℕ) : Type 0 where
  pub id : new.id ≡ old.id
  pub index : new.index ≡ old.index
  pub each : (router : ℕ) → ((get new.reached router ≡ router_now root a old.index router) × names router) ⊎ ((get new.reached router ≡ get old.reached router) × (names router → ⊥))
  pub exact : (router : ℕ) → Contains after router ↔ (Contains before router ⊎ (get new.reached router ≢ get old.reached router))

-- what is kept of routers followed what is dirty, by the index as it is then
abbrev pub AreRoutersBrought : ℕ → AreaValue → Dirty → AreaIntraValue → AreaIntraValue → List ℕ → List ℕ → Type 0
AreRoutersBrought root a dirty old new before after =
    AreRoutersUpdated root a (IsRouterNamed dirty.keys.items dirty.vertices.items old.id) (with_index_of old new) new before after
