-- How what is kept of the areas follows the inputs, area by area.
use Rattle.std.specs.Prelude.{ℕ, ◌≡◌, ◌≢◌, ◌↔◌, ◌<◌, ◌≤◌, ◌⊎◌, List, [], Contains, length, get_or}
use Rattle.std.specs.FinMap.{get}
use Rattle.std.specs.List.Sorted.{IsStrictlySortedBy}
use Rattle.std.specs.Ordering.{nat_cmp}
use Rattle.ospf_types.specs.declared.entry.Vertex.{Vertex}
use Rattle.ospf_types.specs.declared.key.Key.{Key}
use Rattle.ospf_types.specs.declared.key.Scope.{Scope}
use Rattle.ospf_types.specs.declared.prefix.Prefix.{Prefix}
use Rattle.ospf_types.specs.Network.{network_cmp}
use Rattle.intra.specs.declared.dirty.Dirty.{Dirty}
use Rattle.intra.specs.declared.affected.Affected.{Affected}
use Rattle.intra.specs.Changes.{DiffersAmong}
use Rattle.intra.specs.Following.{IsIndexFollowed, IsRouterNamed, router_now, with_index_of}
use Rattle.intra.specs.Indexes.{IsAreaIndexOf}
use Rattle.intra.specs.Inputs.{AreaValue, InputsValue}
use Rattle.intra.specs.Intras.{AreaIntraValue, IsAreaIntra}

-- what is kept belongs to an area from which this one differs in no more than is named
abbrev pub IsKeptBefore : ℕ → List (Scope × Key) → List (ℕ × Vertex) → AreaValue → AreaIntraValue → Type 0
IsKeptBefore root keys vertices a i = (b : AreaValue) × IsAreaIntra root b i × DiffersAmong keys vertices b a

-- what is kept of each area belongs to one from which it differs in no more than is named
pub record AreKeptBefore (root : ℕ) (keys : List (Scope × Key)) (vertices : List (ℕ × Vertex)) (areas : List AreaValue) (kept : List AreaIntraValue) : Type 0 where
  pub as_many : length areas ≡ length kept
  pub each : (k : ℕ) (a : AreaValue) (i : AreaIntraValue) → k < length areas → IsKeptBefore root keys vertices (get_or areas k a) (get_or kept k i)

-- what is kept of each area belongs to inputs from which these differ in no more than is dirty
abbrev pub HaveKeptBefore : Dirty → InputsValue → List AreaIntraValue → Type 0
HaveKeptBefore dirty v kept = AreKeptBefore v.root dirty.keys.items dirty.vertices.items v.areas kept

-- this many first areas are updated so, and the others are as before
pub record AreFirst (P : AreaValue → AreaIntraValue → AreaIntraValue → Type 0) (areas : List AreaValue) (old new : List AreaIntraValue) (count : ℕ) : Type 0 where
  pub as_many : length new ≡ length old
  pub each : (k : ℕ) (a : AreaValue) (i j : AreaIntraValue) → k < count → P (get_or areas k a) (get_or old k i) (get_or new k j)
  pub rest : (k : ℕ) (i : AreaIntraValue) → count ≤ k → get_or new k i ≡ get_or old k i

-- the index belongs to the area, and the prefixes that may get another entry are among these
pub record IsFollowed (root : ℕ) (vertices : List (ℕ × Vertex)) (interfaces : List ℕ) (prefixes : List Prefix) (a : AreaValue) (old new : AreaIntraValue) : Type 0 where
  pub index : IsAreaIndexOf a.lsas new.index
  pub gathered : IsIndexFollowed root vertices interfaces old new [] prefixes

-- only what is kept of routers followed: the named ones are as they are to be, and the others as
-- before
pub record AreRoutersSettled (root : ℕ) (keys : List (Scope × Key)) (vertices : List (ℕ × Vertex)) (a : AreaValue) (old new : AreaIntraValue) : Type 0 where
  pub id : new.id ≡ old.id
  pub index : new.index ≡ old.index
  pub each : (router : ℕ) → (get new.reached router ≡ router_now root a old.index router) ⊎ ((get new.reached router ≡ get old.reached router) × (IsRouterNamed keys vertices old.id router → ⊥))

-- the index belongs to the area, as above, and then what is kept of routers followed
pub record IsBroughtTo (root : ℕ) (keys : List (Scope × Key)) (vertices : List (ℕ × Vertex)) (interfaces : List ℕ) (prefixes : List Prefix) (a : AreaValue) (old new : AreaIntraValue) : Type 0 where
  pub followed : IsFollowed root vertices interfaces prefixes a old (with_index_of old new)
  pub settled : AreRoutersSettled root keys vertices a (with_index_of old new) new

-- in one of this many first areas something else is kept of the router
abbrev pub HasOtherAmong : ℕ → List AreaIntraValue → List AreaIntraValue → ℕ → Type 0
HasOtherAmong count old new router = (k : ℕ) × (k < count) × ((i : AreaIntraValue) → get (get_or new k i).reached router ≢ get (get_or old k i).reached router)

-- what is kept of each area belongs to the inputs, and the prefixes that may get another entry are
-- among these
abbrev pub AreBroughtTo : InputsValue → Dirty → List Prefix → List AreaIntraValue → List AreaIntraValue → Type 0
AreBroughtTo v dirty prefixes old new =
    AreFirst (IsBroughtTo v.root dirty.keys.items dirty.vertices.items dirty.interfaces.items prefixes) v.areas old new (length v.areas)

-- just those routers are named of which something else is kept in some area
abbrev pub NamesOthers : List AreaValue → List AreaIntraValue → List AreaIntraValue → Affected → Type 0
NamesOthers areas old new named = (router : ℕ) → Contains named.routers.items router ↔ HasOtherAmong (length areas) old new router

-- the prefixes are named in order, without duplicates
abbrev pub HasPrefixesInOrder : Affected → Type 0
HasPrefixesInOrder named = IsStrictlySortedBy network_cmp named.prefixes.items

-- the routers are named in order, without duplicates
abbrev pub HasRoutersInOrder : Affected → Type 0
HasRoutersInOrder named = IsStrictlySortedBy nat_cmp named.routers.items
