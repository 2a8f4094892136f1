-- When a routing table and due summaries are right for a state (RFC 2328, 11, 12.4.3 and 16).
use Rattle.std.specs.Prelude.{ℕ, ◌≡◌, ◌≢◌, ◌↔◌, List, [], ◌∷◌, Contains, Option, Some, None, if◌then◌else◌, ◌==◌}
use Rattle.ospf_types.specs.Inputs.{Inputs, Area}
use Rattle.ospf_types.specs.Summaries.{IsDue}
use Rattle.summaries.specs.DueSummary.{DueSummary}
use Rattle.summaries.specs.Lists.{AreInOrder, kind_of}
use Rattle.event_state.specs.States.{State, inputs_of, serial_of}
use Rattle.route_table.specs.Tables.{TableValue}
use Rattle.route_table.specs.Right.{IsRoutingTable}

-- the table reflects the state's databases and interfaces, and has its serial
abbrev pub IsRight : State → TableValue → Type 0
IsRight s t = IsRoutingTable (inputs_of s) (serial_of s) t

-- the list is what is due in the area, ascending by LS type and destination
pub record IsListDue (s : Inputs) (a : Area) (list : List DueSummary) : Type 0 where
  pub in_order : AreInOrder list
  pub exact : (due : DueSummary) → Contains list due ↔ (IsDue s a due.dest due.metric × (due.kind ≡ kind_of due.dest))

-- each of these areas has its list, under its Area ID
abbrev pub AreListsDue : Inputs → List Area → List (ℕ × List DueSummary) → Type 0
AreListsDue s [] [] = Unit {0}
AreListsDue s (a ∷ areas) (e ∷ lists) = ((e.0 ≡ a.id) × IsListDue s a e.1) × AreListsDue s areas lists
AreListsDue s [] (e ∷ lists) = ⊥
AreListsDue s (a ∷ areas) [] = ⊥

-- the lists are what is due in the configured areas, in their order
abbrev pub AreDue : State → List (ℕ × List DueSummary) → Type 0
AreDue s lists = AreListsDue (inputs_of s) (inputs_of s).areas lists

-- what is due in one of these areas, that with the Area ID, or `None` if none of them has it
abbrev pub IsDueAmong : Inputs → List Area → ℕ → Option (List DueSummary) → Type 0
IsDueAmong s areas id None = (a : Area) → Contains areas a → a.id ≢ id
IsDueAmong s areas id (Some list) = (a : Area) × Contains areas a × (a.id ≡ id) × IsListDue s a list

-- what is due in the area with the Area ID
abbrev pub IsDueIn : State → ℕ → Option (List DueSummary) → Type 0
IsDueIn s id list = IsDueAmong (inputs_of s) (inputs_of s).areas id list

-- the first of the lists that is under the Area ID
abbrev pub list_under : List (ℕ × List DueSummary) → ℕ → Option (List DueSummary)
list_under [] id = None
list_under (e ∷ lists) id = if e.0 == id then Some e.1 else list_under lists id
