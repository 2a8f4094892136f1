-- The state that events change (RFC 2328, 13.2 and 14), and what is calculated from.
use Rattle.std.specs.Prelude.{ℕ, ◌≡◌, ◌≢◌, ◌<◌, ◌+◌, ◌==◌, ◌↔◌, Bool, false, length, List, [], map, position, slice_index_or, slice_set, Option, Some, None, option_map, option_and_then}
use Rattle.std.specs.Ordering.{nat_cmp}
use Rattle.std.specs.BTreeMap.{BTreeMap}
use Rattle.std.specs.FinMap.{FinMap, from_entries, entries, values, empty, get, insert}
use Rattle.ospf_types.specs.declared.config.Config.{Config}
use Rattle.ospf_types.specs.declared.config.AreaConfig.{AreaConfig}
use Rattle.ospf_types.specs.declared.config.Interface.{Interface}
use Rattle.ospf_types.specs.declared.key.Key.{Key}
use Rattle.ospf_types.specs.declared.key.Scope.{Scope}
use Rattle.ospf_types.specs.declared.key.Scope.TheVariants as scope
use Rattle.ospf_types.specs.Lsa.{Lsa, Body}
use Rattle.ospf_types.specs.Inputs.{Inputs}
use Rattle.lsdb.specs.Databases.{Database}
use Rattle.lsdb.specs.Contents.{used_at}
use Rattle.event_state.specs.declared.base.Base.{Base}
use Rattle.event_state.specs.declared.event.Event.{Event}
use Rattle.event_state.specs.declared.limits.Limits.{Limits}

pub record State : Type 0 where
  pub base : Base  -- what the events since began with
  pub config : Config  -- with the ranges of now
  pub limits : Limits
  pub databases : List Database  -- that of each configured area, in the order of the areas, and last that of the AS
  pub interfaces : FinMap nat_cmp Interface
  pub journal : List Event  -- the events that were taken since

-- serials count on from the base
abbrev pub serial_of : State → ℕ
serial_of s = s.base.serial + length s.journal

-- the interfaces of a tree, as a finite map
abbrev pub interfaces_of : BTreeMap ℕ Interface → FinMap nat_cmp Interface
interfaces_of m = from_entries m.entries

-- the interface is under the id, and all others are unchanged
abbrev pub PutsInterface : (old new : BTreeMap ℕ Interface) → ℕ → Interface → Type 0
PutsInterface old new id i = interfaces_of new ≡ insert (interfaces_of old) id i

-- the result is false exactly if the id has this interface
abbrev pub TellsInterface : BTreeMap ℕ Interface → ℕ → Interface → (changed : Bool) → Type 0
TellsInterface m id i changed = (changed ≡ false) ↔ (get (interfaces_of m) id ≡ Some i)

-- no two areas have one Area ID
abbrev pub AreAreasApart : List AreaConfig → Type 0
AreAreasApart areas = (i j : ℕ) (d : AreaConfig) → i < j → j < length areas → (slice_index_or areas i d).id ≢ (slice_index_or areas j d).id

-- the place of the scope's database: the AS's comes after those of the areas
abbrev pub place_of : List AreaConfig → Scope → Option ℕ
place_of areas (scope.Area id) = position (λ a. a.id == id) areas
place_of areas scope.As = Some (length areas)

-- the database of a scope, if there is one
abbrev pub database_of : State → Scope → Option Database
database_of s at = option_map (λ k. slice_index_or s.databases k empty) (place_of s.config.areas at)

-- the state with a change to the database at the place
abbrev pub changed_at_place : State → (Database → Database) → Option ℕ → State
changed_at_place s change None = s
changed_at_place s change (Some k) = record s { databases = slice_set s.databases k (change (slice_index_or s.databases k empty)) }

-- the state with a change to the database of the scope
abbrev pub with_change : State → Scope → (Database → Database) → State
with_change s at change = changed_at_place s change (place_of s.config.areas at)

-- the LSAs of the database, if there is one
abbrev pub lsas_of : Option Database → List Lsa
lsas_of None = []
lsas_of (Some d) = values d

-- what the routing table and the summaries are calculated from
abbrev pub inputs_of : State → Inputs
inputs_of s = record {
  router = s.config.router;
  compat = s.config.compat;
  areas = map (λ a. record { id = a.id; stub = a.stub; ranges = a.ranges; lsas = lsas_of (database_of s (scope.Area a.id)) }) s.config.areas;
  externals = lsas_of (database_of s scope.As);
  interfaces = entries s.interfaces;
}

-- Options and body of the LSA under the key, where it is there and used in calculations
abbrev pub usable_at : State → Scope → Key → Option (ℕ × Body)
usable_at s at key = option_and_then (λ d. used_at d key) (database_of s at)

-- the usable LSAs (key, Options, body), the interfaces and the configuration are equal
pub record LooksAlike (s t : State) : Type 0 where
  pub config : s.config ≡ t.config
  pub usable : (at : Scope) (key : Key) → usable_at s at key ≡ usable_at t at key
  pub interfaces : s.interfaces ≡ t.interfaces

-- the result is false exactly if the two look alike
abbrev pub TellsChange : (s t : State) → (changed : Bool) → Type 0
TellsChange s t changed = (changed ≡ false) ↔ LooksAlike s t
