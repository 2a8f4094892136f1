-- What holds of the databases and the interfaces of every state.
use Rattle.std.specs.Prelude.{ℕ, ◌+◌, ◌<◌, ◌≤◌, ◌≡◌, ◌⊎◌, List, length, slice_index_or, true, false, Some, IsSome}
use Rattle.std.specs.Ordering.{nat_cmp}
use Rattle.std.specs.FinMap.{FinMap, get, empty, len}
use Rattle.ospf_types.specs.declared.config.AreaConfig.{AreaConfig}
use Rattle.ospf_types.specs.declared.config.Config.{Config}
use Rattle.ospf_types.specs.declared.config.Interface.{Interface}
use Rattle.ospf_types.specs.declared.key.Key.{Key}
use Rattle.ospf_types.specs.declared.key.Scope.{Scope}
use Rattle.ospf_types.specs.declared.key.Scope.TheVariants as scope
use Rattle.ospf_types.specs.Lsa.{Lsa}
use Rattle.lsdb.specs.Databases.{Database, DatabaseValue}
use Rattle.lsdb.specs.Contents.{IsDatabaseSound}
use Rattle.event_state.specs.declared.limits.Limits.{Limits}
use Rattle.event_state.specs.Bases.{most_serial, databases_in}
use Rattle.event_state.specs.Changes.{lsas_in, limits_in}
use Rattle.event_state.specs.States.{AreAreasApart, State, place_of}
use Rattle.event_state.specs.Steps.{is_out_of_scope, limit_of}

-- a scope's database: each LSA under its own key, in the grammar and in its scope
pub record IsFit (at : Scope) (d : Database) : Type 0 where
  pub sound : IsDatabaseSound d
  pub placed : (k : Key) (l : Lsa) → get d k ≡ Some l → is_out_of_scope at l.header.kind ≡ false

-- there is one database for each area, and one for the AS; if two areas have one Area ID, that of
-- the later stays empty
pub record AreKept (areas : List AreaConfig) (databases : List Database) : Type 0 where
  pub places : length databases ≡ length areas + 1
  pub fit : (at : Scope) (k : ℕ) → place_of areas at ≡ Some k → IsFit at (slice_index_or databases k empty)
  pub reached : (k : ℕ) → k < length databases → ((at : Scope) × (place_of areas at ≡ Some k)) ⊎ (slice_index_or databases k empty ≡ empty)

-- no two areas have one Area ID, and there is one database for each, and one for the AS
pub record AreFit (areas : List AreaConfig) (databases : List Database) : Type 0 where
  pub apart : AreAreasApart areas
  pub places : length databases ≡ length areas + 1
  pub fit : (at : Scope) (k : ℕ) → place_of areas at ≡ Some k → IsFit at (slice_index_or databases k empty)

-- if no two areas have one Area ID, each database belongs to its scope
abbrev pub HasFitDatabases : State → Type 0
HasFitDatabases s = AreAreasApart s.config.areas → AreFit s.config.areas s.databases

-- each database has the limit of its scope
abbrev pub AreLimited : List AreaConfig → Limits → List ℕ → Type 0
AreLimited areas limits most = (at : Scope) (k : ℕ) → place_of areas at ≡ Some k → slice_index_or most k 0 ≡ limit_of limits at

-- no database has more LSAs than it may hold
abbrev pub AreWithinLimits : List Database → List ℕ → Type 0
AreWithinLimits databases most = (k : ℕ) → len (slice_index_or databases k empty) ≤ slice_index_or most k 0

-- the area of each interface is configured, and no two that are up have one address
pub record AreInterfaces (areas : List AreaConfig) (interfaces : FinMap nat_cmp Interface) : Type 0 where
  pub placed : (id : ℕ) (i : Interface) → get interfaces id ≡ Some i → IsSome (place_of areas (scope.Area i.area))
  pub apart : (id other : ℕ) (i j : Interface) → get interfaces id ≡ Some i → get interfaces other ≡ Some j → i.up ≡ true → j.up ≡ true → i.address ≡ j.address → id ≡ other

-- what holds of the databases of every state
pub record IsHeld (config : Config) (limits : Limits) (databases : List DatabaseValue) : Type 0 where
  pub kept : AreKept config.areas (lsas_in databases)
  pub limited : AreLimited config.areas limits (limits_in databases)
  pub within : AreWithinLimits (lsas_in databases) (limits_in databases)

-- the databases belong to these LSAs
pub record AreFilled (config : Config) (limits : Limits) (all : List (Scope × Lsa)) (databases : List DatabaseValue) : Type 0 where
  pub held : IsHeld config limits databases
  pub lsas : lsas_in databases ≡ databases_in all config.areas

-- what holds of every state
pub record IsState (config : Config) (limits : Limits) (databases : List DatabaseValue) (of_router : FinMap nat_cmp Interface) (last : ℕ) : Type 0 where
  pub held : IsHeld config limits databases
  pub interfaces : AreInterfaces config.areas of_router
  pub serial : last ≤ most_serial
