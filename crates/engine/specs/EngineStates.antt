-- The state under the lock.
use Rattle.std.specs.Prelude.{◌≡◌, ◌⊎◌, ◌↔◌, ℕ, ◌<◌, ◌≤◌, ◌+◌, Bool, List, [], ◌∷◌, ◌++◌, length, Option, Some, Result, MatchBool, MatchOption, MatchResult}
use mathlib.Core.List.{IsPrefix}
use Rattle.event_state.specs.declared.event.Event.{Event}
use Rattle.event_state.specs.declared.refusal.Refusal.{Refusal}
use Rattle.event_state.specs.declared.refusal.Refusal.TheVariants as refusal
use Rattle.event_state.specs.Rolls.{IsRolled}
use Rattle.event_state.specs.Steps.{standard_limits}
use Rattle.event_core.specs.Cores.{CoreValue}
use Rattle.event_core.specs.declared.reply.Status.{Status}
use Rattle.event_core.specs.declared.reply.Status.TheVariants.{Current, Behind}
use Rattle.route_table.specs.Deltas.{Lead}
use Rattle.publication.specs.Lines.{HistoryLine}
use Rattle.publication.specs.Names.{Name}
use Rattle.publication.specs.Published.{IsShownRight, name_of}
use Rattle.publication.specs.Forwarders.{ForwarderValue}
use Rattle.publication.specs.Told.{TokenValue}
use Rattle.publication.specs.Updates.{those_of}
use Rattle.publication.specs.declared.published_table.PublishedTable.{PublishedTable}
use Rattle.publication.specs.declared.published_table.Update.{Update}

-- as many readers as there may be
abbrev pub AreReaders : ℕ → Type 0
AreReaders n = (0 < n) × (n ≤ 64)

-- An engine's state as its callers see it: the engine's name, the events since the engine was
-- opened, how many of them the table and the due summaries reflect, and the published list.
pub record Held : Type 0 where
  pub name : Name
  pub list : List Event
  pub built : ℕ
  pub published : List Event

-- the answer of the core's catching up: all is built; or what was built is unchanged, and is not
-- all
abbrev pub CatchesUp : Held → Status → Held → Type 0
CatchesUp old Current new = new.built ≡ length new.list
CatchesUp old Behind new = (new.built ≡ old.built) × (new.built < length new.list)

-- the reason why an engine's state is not rolled: less is published than was taken; or otherwise
-- memory ran out
abbrev pub IsRollRefusal : Held → Refusal → Type 0
IsRollRefusal d r = ((r ≡ refusal.NotCurrent) × (length d.published < length d.list)) ⊎ ((r ≡ refusal.Memory) × (d.published ≡ d.list))

-- the events that were rolled into the core's base, and those of its journal
abbrev pub list_of : HistoryLine → CoreValue → List Event
list_of rolled core = rolled.list ++ core.journal

-- a beginning of these that has all that were rolled, and no more than was built
pub record IsHistoryBegun (rolled : HistoryLine) (core : CoreValue) (list : List Event) : Type 0 where
  pub within : length rolled.list ≤ length list
  pub begins : IsPrefix list (list_of rolled core)
  pub built : length list ≤ length rolled.list + core.built

-- The core, the author of the history, the history at the last roll, the published table, and what
-- the writer knows. Nothing is said of updates that are pending: a whole table clears.
pub record IsEngineKept (core : CoreValue) (history rolled : HistoryLine) (shown : PublishedTable) (known : Option Name) : Type 0 where
  pub book : history.book ≡ shown.front.book
  pub base : IsRolled shown.base standard_limits rolled.list core.base
  pub known_is : known ≡ Some (name_of shown)
  pub limits : core.limits ≡ standard_limits
  pub right : IsShownRight shown
  pub published : IsHistoryBegun rolled core shown.front.list
  pub written : IsHistoryBegun rolled core history.list

-- if it is stale, less is published than was taken; otherwise nothing is pending, and the published
-- list and the author's are the whole list
abbrev pub IsFresh : Bool → CoreValue → HistoryLine → HistoryLine → PublishedTable → List Update → Type 0
IsFresh stale core history rolled shown pending =
    MatchBool stale (length shown.front.list < length (list_of rolled core))
    ((pending ≡ []) × (shown.front.list ≡ list_of rolled core) × (history.list ≡ list_of rolled core))

-- the changes may be published alone: nothing is pending, and they lead from the published table to
-- the table of the whole journal
abbrev pub CanFollow : CoreValue → PublishedTable → List Update → Type 0
CanFollow core shown pending =
    (pending ≡ []) × (core.built ≡ length core.journal)
    × Lead shown.table.items core.table.items (those_of core.table.items core.changes)

-- a token of an engine's state for this serial: it is for a beginning of the list
abbrev pub IsTokenFor : Name → List Event → ℕ → TokenValue → Type 0
IsTokenFor name list serial t = (t.name ≡ name) × IsPrefix t.list list × (serial ≡ name.base.serial + length t.list)

-- the serials of the last published event, of the last that the table and the due summaries
-- reflect, and of the last that was taken
abbrev pub published_serial : Held → ℕ
published_serial d = d.name.base.serial + length d.published

abbrev pub built_serial : Held → ℕ
built_serial d = d.name.base.serial + d.built

abbrev pub last_serial : Held → ℕ
last_serial d = d.name.base.serial + length d.list

-- it has this name, the events that were rolled and those of the core's journal, and reflects as
-- many as the core
abbrev pub IsStateOf : Name → HistoryLine → CoreValue → Held → Type 0
IsStateOf name rolled core d = (d.name ≡ name) × (d.list ≡ list_of rolled core) × (d.built ≡ length rolled.list + core.built)

-- it begins with the core, and has published no event
abbrev pub IsOpenedOver : CoreValue → Held → Type 0
IsOpenedOver core d = (d.name.base ≡ core.base) × (d.list ≡ []) × (d.published ≡ [])

-- nothing that a caller sees has changed
abbrev pub IsAsBefore : Held → Held → Type 0
IsAsBefore old new = (new.name ≡ old.name) × (new.list ≡ old.list) × (new.built ≡ old.built) × (new.published ≡ old.published)

-- if an event is taken, it is the last of the list; if it is refused, the list stays
abbrev pub IsListAfter : {A R : Type 0} → Held → Event → Result A R → Held → Type 0
IsListAfter old event answer new = MatchResult answer (λ _. new.list ≡ old.list ++ event ∷ []) (λ _. new.list ≡ old.list)

-- the token of the published list, exactly where that is the whole list
abbrev pub IsTokenOfAll : Held → Option TokenValue → Type 0
IsTokenOfAll d told = MatchOption told (¬ (length d.list ≡ length d.published)) (λ t. (t.list ≡ d.list) × (t.list ≡ d.published))

-- the token of the published list, exactly where that has this serial
abbrev pub IsTokenAt : Held → ℕ → Option TokenValue → Type 0
IsTokenAt d serial told = MatchOption told (¬ (serial ≡ published_serial d)) (λ t. t.list ≡ d.published)

-- the forwarder knows just what is published
abbrev pub KnowsPublished : Held → ForwarderValue → Type 0
KnowsPublished d f = (f.name ≡ d.name) × (f.known ≡ d.published)

-- some of the list were rolled into the core's base, and the others are its journal
abbrev pub IsSplitInto : Held → CoreValue → Type 0
IsSplitInto d core = (rolled : List Event) × IsRolled d.name.base standard_limits rolled core.base × (d.list ≡ rolled ++ core.journal)
