-- The effect of an update on the table that readers see.
use Rattle.std.specs.Prelude.{◌≡◌, ℕ, List, [], ◌∷◌, ◌++◌, map, Option, Some}
use Rattle.std.specs.FinMap.{FinMap, get, entries}
use Rattle.event_state.specs.declared.base.Base.{Base}
use Rattle.ospf_types.specs.Network.{Network, network_cmp}
use Rattle.route_table.specs.declared.table.Item.{Item}
use Rattle.route_table.specs.declared.delta.Change.TheVariants.{Clear, Serial}
use Rattle.route_table.specs.Tables.{TableValue}
use Rattle.route_table.specs.Deltas.{changed, changes_to}
use Rattle.publication.specs.Lines.{HistoryLine}
use Rattle.publication.specs.Published.{IsTableFor}
use Rattle.publication.specs.declared.published_table.PublishedState.{PublishedState}
use Rattle.publication.specs.declared.published_table.PublishedTable.{PublishedTable}
use Rattle.publication.specs.declared.published_table.Update.{Update}
use Rattle.publication.specs.declared.published_table.Update.TheVariants as update

abbrev pub updated : PublishedState → Update → PublishedState
updated f (update.Change c) = record f { table = changed f.table c }
updated f (update.List l) = record f { front = l }

abbrev pub shown_state_of : PublishedTable → PublishedState
shown_state_of s = record { table = s.table; front = s.front; base = s.base }

-- its table is right for a list, and it shows that list
pub record IsRightState (line : HistoryLine) (base : Base) (f : PublishedState) : Type 0 where
  pub right : IsTableFor base line.list f.table
  pub front : f.front ≡ line
  pub base_is : f.base ≡ base

-- the last two updates of a publication: the serial of the list, and the list
abbrev pub ends : ℕ → HistoryLine → List Update
ends serial line = update.Change (Serial serial) ∷ update.List line ∷ []

-- those that give each of these networks the item that is paired with it
abbrev pub gifts : List (Network × Option Item) → List Update
gifts items = map (λ c. update.Change c) (changes_to items)

-- each network of the table, with its item
abbrev pub all_of : FinMap network_cmp Item → List (Network × Option Item)
all_of items = map (λ e. (e.0, Some e.1)) (entries items)

-- each of these networks, with the item that the table has for it
abbrev pub those_of : FinMap network_cmp Item → List Network → List (Network × Option Item)
those_of items networks = map (λ p. (p, get items p)) networks

-- the updates that carry a whole table: the first clears, so their result depends on nothing before
-- them
abbrev pub whole : TableValue → HistoryLine → List Update
whole table line = update.Change Clear ∷ (gifts (all_of table.items) ++ ends table.serial line)

-- the updates that carry what changed: one for each of these networks, then the serial
abbrev pub deltas : List Network → TableValue → HistoryLine → List Update
deltas networks table line = gifts (those_of table.items networks) ++ ends table.serial line

-- these updates were appended to those that were pending
abbrev pub AreUpdatesAppended : List Update → List Update → List Update → Type 0
AreUpdatesAppended more before after = after ≡ before ++ more
