-- The LSAs of a state in the order in which they are listed: areas by Area ID, then the AS; in each
-- database by LS type, Link State ID and Advertising Router.
use Rattle.std.specs.Prelude.{ℕ, ◌≡◌, ◌↔◌, ◌++◌, List, map, IsSome, Contains}
use Rattle.std.specs.List.{flat_map}
use Rattle.std.specs.List.Sorted.{IsStrictlySortedBy}
use Rattle.std.specs.Ordering.{nat_cmp}
use Rattle.ospf_types.specs.declared.config.AreaConfig.{AreaConfig}
use Rattle.ospf_types.specs.declared.key.Scope.{Scope}
use Rattle.ospf_types.specs.declared.key.Scope.TheVariants as scope
use Rattle.ospf_types.specs.Lsa.{Lsa}
use Rattle.event_state.specs.States.{State, place_of, database_of, lsas_of}

-- the configured Area IDs, ascending
pub record AreAreaIds (areas : List AreaConfig) (ids : List ℕ) : Type 0 where
  pub ascending : IsStrictlySortedBy nat_cmp ids
  pub same : (id : ℕ) → Contains ids id ↔ IsSome (place_of areas (scope.Area id))

-- the LSAs of a database, each with its scope, in the order of their keys
abbrev pub lsas_at : State → Scope → List (Scope × Lsa)
lsas_at s at = map (λ l. (at, l)) (lsas_of (database_of s at))

-- those of these areas, in their order
abbrev pub lsas_of_areas : State → List ℕ → List (Scope × Lsa)
lsas_of_areas s ids = flat_map (λ id. lsas_at s (scope.Area id)) ids

-- those of these areas, and then those of the AS
abbrev pub lsas_in : State → List ℕ → List (Scope × Lsa)
lsas_in s ids = lsas_of_areas s ids ++ lsas_at s scope.As

-- all LSAs of the state, without duplicates, in their order
abbrev pub AreLsas : State → List (Scope × Lsa) → Type 0
AreLsas s found = (ids : List ℕ) × AreAreaIds s.config.areas ids × (found ≡ lsas_in s ids)
