-- The knowledge of a forwarder, and its lookups.
use Rattle.std.specs.Prelude.{ℕ, ◌≡◌, List}
use mathlib.Core.List.{IsPrefix}
use Rattle.event_state.specs.declared.event.Event.{Event}
use Rattle.route_table.specs.Tables.{TableValue}
use Rattle.publication.specs.Names.{Name}
use Rattle.publication.specs.Published.{IsTableFor}

-- the longest of the lists that the forwarder saw or learned, which begins with each of them
pub record ForwarderValue : Type 0 where
  pub name : Name
  pub known : List Event

pub record SeenValue : Type 0 where
  pub name : Name
  pub list : List Event
  pub address : ℕ
  pub table : TableValue

-- the table is right for a legal list, which begins with all that the forwarder saw or learned
-- before
abbrev pub IsLookup : ForwarderValue → ℕ → SeenValue → Type 0
IsLookup f address s = (s.name ≡ f.name) × (s.address ≡ address) × IsPrefix f.known s.list × IsTableFor s.name.base s.list s.table
