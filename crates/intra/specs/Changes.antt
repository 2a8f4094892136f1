-- What differs in the inputs, what is named of it, and the destinations whose result differs.
use Rattle.std.specs.Prelude.{ℕ, ◌≡◌, ◌≢◌, ◌⊎◌, ◌↔◌, List, [], ◌∷◌, Contains, IsSome, None}
use Rattle.std.specs.FinMap.{get}
use Rattle.ospf_types.specs.declared.config.Interface.{Interface}
use Rattle.ospf_types.specs.declared.entry.Vertex.{Vertex}
use Rattle.ospf_types.specs.declared.key.Dest.{Dest}
use Rattle.ospf_types.specs.declared.key.Dest.TheVariants.{Net, Router}
use Rattle.ospf_types.specs.declared.key.Key.{Key}
use Rattle.ospf_types.specs.declared.key.Scope.{Scope}
use Rattle.ospf_types.specs.declared.key.Scope.TheVariants.{Area}
use Rattle.area_trees.specs.Areas.{body_at, IsStanding}
use Rattle.intra.specs.declared.dirty.Dirty.{Dirty}
use Rattle.lsdb.specs.Databases.{Database}
use Rattle.intra.specs.Inputs.{AreaValue, InputsValue, distance_at, hops_at}
use Rattle.intra.specs.Intras.{AreaIntraValue, IntraValue, IsIntraOf}

-- an area before and after: the LSAs that are used otherwise are named, and so is each vertex that
-- has another distance or other next hops, but for those that were not there before
pub record DiffersAmong (keys : List (Scope × Key)) (vertices : List (ℕ × Vertex)) (a b : AreaValue) : Type 0 where
  pub id : b.id ≡ a.id
  pub lsas : (key : Key) → (Contains keys (Area a.id, key) → ⊥) → body_at b.lsas key ≡ body_at a.lsas key
  pub tree : (v : Vertex) → (Contains vertices (a.id, v) → ⊥) → IsStanding a.lsas v None ⊎ ((distance_at b v ≡ distance_at a v) × (hops_at b v ≡ hops_at a v))

abbrev pub AreasDifferAmong : List (Scope × Key) → List (ℕ × Vertex) → List AreaValue → List AreaValue → Type 0
AreasDifferAmong keys vertices [] [] = Unit {0}
AreasDifferAmong keys vertices (a ∷ rest) (b ∷ bs) = DiffersAmong keys vertices a b × AreasDifferAmong keys vertices rest bs
AreasDifferAmong keys vertices [] (b ∷ bs) = ⊥
AreasDifferAmong keys vertices (a ∷ rest) [] = ⊥

-- the inputs differ in no more than is named
pub record InputsDifferAmong (keys : List (Scope × Key)) (vertices : List (ℕ × Vertex)) (ids : List ℕ) (old new : InputsValue) : Type 0 where
  pub root : new.root ≡ old.root
  pub areas : AreasDifferAmong keys vertices old.areas new.areas
  pub interfaces : (id : ℕ) (i : Interface) → (Contains ids id → ⊥) → Contains new.interfaces (id, i) ↔ Contains old.interfaces (id, i)

-- the routes belong to inputs from which these differ in no more than is named
abbrev pub IsIntraBefore : Dirty → InputsValue → IntraValue → Type 0
IsIntraBefore dirty v w =
    (before : InputsValue) × IsIntraOf before w × InputsDifferAmong dirty.keys.items dirty.vertices.items dirty.interfaces.items before v

-- the keys of all LSAs of the database are there, with the scope of its area
abbrev pub HasKeysOf : ℕ → Database → List (Scope × Key) → Type 0
HasKeysOf area lsas keys = (key : Key) → IsSome (get lsas key) → Contains keys (Area area, key)

-- the keys of all LSAs of the areas are there
abbrev pub HasKeysOfAll : List AreaValue → List (Scope × Key) → Type 0
HasKeysOfAll areas keys = (a : AreaValue) (key : Key) → Contains areas a → IsSome (get a.lsas key) → Contains keys (Area a.id, key)

-- in some area something else is kept of the router
abbrev pub HasOtherRouter : List AreaIntraValue → List AreaIntraValue → ℕ → Type 0
HasOtherRouter (i ∷ is) (j ∷ js) r = (get j.reached r ≢ get i.reached r) ⊎ HasOtherRouter is js r
HasOtherRouter [] js r = ⊥
HasOtherRouter (i ∷ is) [] r = ⊥

-- the result of the destination differs
abbrev pub DiffersAt : IntraValue → IntraValue → Dest → Type 0
DiffersAt old new (Net p) = get new.entries p ≢ get old.entries p
DiffersAt old new (Router r) = HasOtherRouter old.areas new.areas r

-- just the result of these destinations differs
abbrev pub AreDiffering : IntraValue → IntraValue → List Dest → Type 0
AreDiffering old new dests = (d : Dest) → Contains dests d ↔ DiffersAt old new d
