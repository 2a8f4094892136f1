-- The trees of a state's areas, and what routes are calculated from.
use Rattle.std.specs.Prelude.{ℕ, ◌≡◌, ◌↔◌, ◌⊎◌, Bool, false, IsTrue, List, [], ◌∷◌, Contains, Option, Some, None}
use Rattle.std.specs.FinMap as map
use Rattle.std.specs.FinMap.{entries, empty, get}
use Rattle.ospf_types.specs.declared.config.AreaConfig.{AreaConfig}
use Rattle.ospf_types.specs.declared.config.Interface.{Interface}
use Rattle.ospf_types.specs.declared.key.Key.{Key}
use Rattle.ospf_types.specs.declared.key.Scope.{Scope}
use Rattle.ospf_types.specs.declared.key.Scope.TheVariants.{Area}
use Rattle.ospf_types.specs.RangeChanges.{without_ranges}
use Rattle.lsdb.specs.Databases.{Database}
use Rattle.vertex_graph.specs.Up.{Up}
use Rattle.area_trees.specs.Areas.{AreaTreeValue, IsAreaTree}
use Rattle.intra.specs.Inputs.{AreaValue, InputsValue}
use Rattle.event_state.specs.States.{State, database_of, usable_at}

-- the LSAs of a database, where there is one
abbrev pub lsas_in : Option Database → Database
lsas_in None = empty
lsas_in (Some d) = d

-- the areas with their databases and trees
abbrev pub areas_with : State → List AreaConfig → List AreaTreeValue → List AreaValue
areas_with s (a ∷ areas) (t ∷ trees) = record { id = a.id; lsas = lsas_in (database_of s (Area a.id)); tree = t } ∷ areas_with s areas trees
areas_with s [] trees = []
areas_with s (a ∷ areas) [] = []

-- what routes are calculated from
abbrev pub inputs_with : State → List AreaTreeValue → InputsValue
inputs_with s trees = record { root = s.config.router; areas = areas_with s s.config.areas trees; interfaces = entries s.interfaces }

-- just the interfaces of the area that are up
abbrev pub AreUpsOf : State → ℕ → List Up → Type 0
AreUpsOf s area ups = (u : Up) → Contains ups u ↔ ((i : Interface) × Contains (entries s.interfaces) (u.id, i) × (i.area ≡ area) × IsTrue i.up × (i.address ≡ u.address))

-- the tree belongs to the area's database and to its interfaces that are up
abbrev pub IsTreeFor : State → ℕ → AreaTreeValue → Type 0
IsTreeFor s area t = (ups : List Up) × AreUpsOf s area ups × IsAreaTree s.config.router (lsas_in (database_of s (Area area))) ups t

-- the tree of each area
abbrev pub AreTreesOf : State → List AreaConfig → List AreaTreeValue → Type 0
AreTreesOf s [] [] = Unit {0}
AreTreesOf s (a ∷ areas) (t ∷ trees) = IsTreeFor s a.id t × AreTreesOf s areas trees
AreTreesOf s [] (t ∷ trees) = ⊥
AreTreesOf s (a ∷ areas) [] = ⊥

-- the states differ in no more than these LSAs or these interfaces, and in the ranges of areas
-- where these may differ
pub record StatesDifferAmong (keys : List (Scope × Key)) (ids : List ℕ) (ranged : Bool) (before after : State) : Type 0 where
  pub areas : without_ranges after.config ≡ without_ranges before.config
  pub ranges : ranged ≡ false → after.config ≡ before.config
  pub usable : (at : Scope) (key : Key) → (Contains keys (at, key) → ⊥) → usable_at after at key ≡ usable_at before at key
  pub interfaces : (id : ℕ) → (Contains ids id → ⊥) → get after.interfaces id ≡ get before.interfaces id
  pub one_kind : (keys ≡ []) ⊎ (ids ≡ [])
