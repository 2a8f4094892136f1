-- The routes and due summaries that a core keeps, and what an event changes of them.
use Rattle.std.specs.Prelude.{ℕ, ◌≡◌, ◌≢◌, ◌⊎◌, ◌↔◌, ◌++◌, List, [], ◌∷◌, Contains, Option, Result, Ok}
use Rattle.std.specs.FinMap as map
use Rattle.std.specs.List.Sorted.{IsStrictlySortedBy}
use Rattle.std.specs.Map.{keys_of}
use Rattle.ospf_types.specs.declared.prefix.Prefix.{Prefix}
use Rattle.ospf_types.specs.Network.{network_cmp}
use Rattle.ospf_types.specs.declared.memory.Memory.{Memory}
use Rattle.spf.specs.Touched.{Touched}
use Rattle.route_table.specs.declared.table.Item.{Item}
use Rattle.route_table.specs.Tables.{TableValue}
use Rattle.summaries.specs.DueSummaries.{AreDueChanges, DueSummariesValue, lists_of}
use Rattle.summaries.specs.Lists.{Metrics}
use Rattle.event_state.specs.States.{State, serial_of}
use Rattle.calculation.specs.Calculations.{CalculationValue, IsCalculationOf, IsItemOf, IsTableOf}
use Rattle.calculation.specs.Summaries.{AreSummariesFor}

pub record RoutesValue : Type 0 where
  pub calculation : CalculationValue
  pub table : TableValue
  pub summaries : DueSummariesValue
  pub work : Touched
  pub changes : List Prefix
  pub due_changes : List (ℕ × Metrics)

-- what is kept belongs to the state, the table has its serial, and what is due is due by what is
-- kept
pub record AreRoutesOf (s : State) (r : RoutesValue) : Type 0 where
  pub calculation : IsCalculationOf s r.calculation
  pub table : IsTableOf r.calculation r.table.items
  pub serial : r.table.serial ≡ serial_of s
  pub summaries : AreSummariesFor s r.calculation r.summaries

-- the networks whose item differs, ascending without duplicates
pub record AreChanges (old new : map.FinMap network_cmp Item) (networks : List Prefix) : Type 0 where
  pub in_order : IsStrictlySortedBy network_cmp networks
  pub exact : (p : Prefix) → Contains networks p ↔ (map.get new p ≢ map.get old p)

-- the changes list what differs between the two: the networks whose item differs, and the due
-- summaries
pub record TellsChanges (old new : RoutesValue) : Type 0 where
  pub networks : AreChanges old.table.items new.table.items new.changes
  pub due : AreDueChanges new.due_changes (lists_of old.summaries) (lists_of new.summaries)

-- of these networks, those for which the table has another item than it is to have, each with the
-- item that it is to have
pub record AreOtherItems (c : CalculationValue) (table : map.FinMap network_cmp Item) (networks : List Prefix) (items : List (Prefix × Option Item)) : Type 0 where
  pub in_order : IsStrictlySortedBy network_cmp (keys_of items)
  pub each : (p : Prefix) (item : Option Item) → Contains items (p, item) → Contains networks p × IsItemOf c p item × (map.get table p ≢ item)
  pub others : (p : Prefix) → Contains networks p → ((item : Option Item) → Contains items (p, item) → ⊥) → IsItemOf c p (map.get table p)

-- the item that the network is to have is added, if the table has another one
abbrev pub IsItemAdded : CalculationValue → map.FinMap network_cmp Item → Prefix → List (Prefix × Option Item) → List (Prefix × Option Item) → Type 0
IsItemAdded c table p before after =
    ((after ≡ before) × IsItemOf c p (map.get table p))
    ⊎ ((item : Option Item) × (after ≡ before ++ (p, item) ∷ []) × IsItemOf c p item × (map.get table p ≢ item))

-- no work
abbrev pub no_work : Touched
no_work = record { taken = 0; hop_sets = 0 }

-- nothing was refused, and the event has no changes
pub record IsStill (result : Result (Unit {0}) Memory) (r : RoutesValue) : Type 0 where
  pub settled : result ≡ Ok tt
  pub work : r.work ≡ no_work
  pub changes : r.changes ≡ []
  pub due_changes : r.due_changes ≡ []
