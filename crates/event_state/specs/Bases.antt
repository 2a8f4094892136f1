-- The base of a run of events, and the databases and interfaces that it makes.
use Rattle.std.specs.Prelude.{ℕ, ◌≡◌, ◌==◌, ◌++◌, Bool, true, false, List, [], ◌∷◌, map, filter}
use Rattle.std.specs.Ordering.{nat_cmp}
use Rattle.std.specs.FinMap.{FinMap, from_entries}
use Rattle.ospf_types.specs.declared.config.AreaConfig.{AreaConfig}
use Rattle.ospf_types.specs.declared.config.Config.{Config}
use Rattle.ospf_types.specs.declared.config.Interface.{Interface}
use Rattle.ospf_types.specs.declared.key.Key.{Key}
use Rattle.ospf_types.specs.declared.key.Scope.{Scope}
use Rattle.ospf_types.specs.declared.key.Scope.TheVariants as scope
use Rattle.ospf_types.specs.Lsa.{Lsa, key_of}
use Rattle.lsdb.specs.Databases.{Database}
use Rattle.event_state.specs.declared.base.Base.{Base}

-- the last serial that there is
abbrev pub most_serial : ℕ
most_serial = 18446744073709551615

-- a configuration only: serial 0, no interfaces and no LSAs
abbrev pub bare : Config → Base
bare config = record { config = config; serial = 0; interfaces = []; lsas = [] }

-- the base is a configuration only: its serial is 0, and it has no interfaces and no LSAs
abbrev pub HasConfigOnly : Base → Type 0
HasConfigOnly b = (b.serial ≡ 0) × (b.interfaces ≡ []) × (b.lsas ≡ [])

-- both are one scope
abbrev pub is_scope : Scope → Scope → Bool
is_scope (scope.Area a) (scope.Area b) = a == b
is_scope scope.As scope.As = true
is_scope _ _ = false

-- the LSAs of one scope
abbrev pub lsas_under : List (Scope × Lsa) → Scope → List (Scope × Lsa)
lsas_under lsas at = filter (λ x. is_scope at x.0) lsas

-- each under its key
abbrev pub keyed : List (Scope × Lsa) → List (Key × Lsa)
keyed lsas = map (λ x. (key_of x.1, x.1)) lsas

-- the database of a scope, of these LSAs; of two with one key the first is in it
abbrev pub held_in : List (Scope × Lsa) → Scope → Database
held_in lsas at = from_entries (keyed (lsas_under lsas at))

-- the databases of the areas, and that of the AS after them
abbrev pub databases_in : List (Scope × Lsa) → List AreaConfig → List Database
databases_in lsas areas = map (λ a. held_in lsas (scope.Area a.id)) areas ++ held_in lsas scope.As ∷ []

-- the interfaces by their ids
abbrev pub interfaces_in : List (ℕ × Interface) → FinMap nat_cmp Interface
interfaces_in interfaces = from_entries interfaces
