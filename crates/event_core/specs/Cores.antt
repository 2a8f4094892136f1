-- The core as its callers see it: the base, the events that were taken since, and a table and due
-- summaries that are right for the first of them.
use Rattle.std.specs.Prelude.{All, ℕ, ◌≡◌, ◌≤◌, ◌<◌, ◌↔◌, ◌⊎◌, false, List, [], ◌∷◌, ◌++◌, take, length, Some, None, Result, Ok, Err}
use Rattle.ospf_types.specs.declared.config.Config.{Config}
use Rattle.event_state.specs.declared.base.Base.{Base}
use Rattle.event_state.specs.declared.event.Event.{Event}
use Rattle.event_state.specs.declared.event.Event.TheVariants as event
use Rattle.lsdb.specs.Contents.{NoneComes}
use Rattle.event_core.specs.declared.reply.Reply.{Reply}
use Rattle.event_core.specs.declared.reply.Status.{Status}
use Rattle.event_core.specs.declared.reply.Status.TheVariants.{Current, Behind}
use Rattle.event_state.specs.declared.refusal.Refusal.{Refusal}
use Rattle.event_state.specs.declared.refusal.Refusal.TheVariants as refusal
use Rattle.ospf_types.specs.declared.fault.ConfigFault.{ConfigFault}
use Rattle.ospf_types.specs.declared.fault.ConfigFault.TheVariants.{Memory}
use Rattle.event_state.specs.declared.limits.Limits.{Limits}
use Rattle.ospf_types.specs.Configs.{config_fault_of}
use Rattle.event_state.specs.declared.base_fault.BaseFault.{BaseFault}
use Rattle.event_state.specs.declared.base_fault.BaseFault.TheVariants as base_fault
use Rattle.event_state.specs.BaseFaults.{base_fault_of}
use Rattle.event_state.specs.Rolls.{since, IsBaseOf}
use Rattle.event_state.specs.States.{State, LooksAlike, serial_of}
use Rattle.event_state.specs.Steps.{run_of, refusal_of, IsLegalList}
use Rattle.event_state.specs.Refusals.{IsRefusalOf}
use Rattle.route_table.specs.Tables.{TableValue}
use Rattle.summaries.specs.DueSummary.{DueSummary}
use Rattle.summaries.specs.DueSummaries.{AreDueChanges}
use Rattle.summaries.specs.Lists.{Metrics}
use Rattle.event_core.specs.Right.{IsRight, AreDue}
use Rattle.ospf_types.specs.declared.prefix.Prefix.{Prefix}
use Rattle.spf.specs.Touched.{Touched}
use Rattle.event_core.specs.Following.{AreChanges, no_work}
use Rattle.event_core.specs.Sums.{IsFollowingWork, IsBuildingWork}

pub record CoreValue : Type 0 where
  pub base : Base  -- what the journal begins with
  pub limits : Limits
  pub journal : List Event  -- the events that were taken since
  pub built : ℕ  -- table and due summaries reflect this many of them
  pub table : TableValue
  pub summaries : List (ℕ × List DueSummary)  -- each area with what is due in it, in the order of the configuration
  pub work : Touched  -- that of the last event
  pub changes : List Prefix  -- the networks whose item the last event changed
  pub due_changes : List (ℕ × Metrics)  -- areas in the order of the configuration, each with what the last event changed of what is due there; in one that is left out, nothing

-- the databases and interfaces now
abbrev pub state_of : CoreValue → State
state_of c = run_of c.base c.limits c.journal

-- the databases and interfaces that table and due summaries reflect
abbrev pub built_state : CoreValue → State
built_state c = run_of c.base c.limits (take c.built c.journal)

-- what holds of every core: its base has no fault, each event of the journal is taken in its turn,
-- and table and due summaries are right for the first `built`
pub record IsCore (c : CoreValue) : Type 0 where
  pub sound : base_fault_of c.limits c.base ≡ None
  pub legal : IsLegalList c.base c.limits c.journal
  pub within : c.built ≤ length c.journal
  pub right : IsRight (built_state c) c.table
  pub due : AreDue (built_state c) c.summaries

-- table and due summaries reflect the whole journal, or stay as before, where events were
-- taken since
abbrev pub MatchesStatus : CoreValue → Status → CoreValue → Type 0
MatchesStatus old Current new = (new.built ≡ length new.journal) × IsRight (state_of new) new.table × AreDue (state_of new) new.summaries
MatchesStatus old Behind new = (new.built ≡ old.built) × (new.table ≡ old.table) × (new.summaries ≡ old.summaries) × (new.built < length new.journal)

-- the event is taken, with this reply
pub record IsTaken (old : CoreValue) (e : Event) (r : Reply) (new : CoreValue) : Type 0 where
  pub accepted : refusal_of (state_of old) e ≡ None
  pub joins : new.journal ≡ old.journal ++ e ∷ []
  pub base : new.base ≡ old.base
  pub limits : new.limits ≡ old.limits
  pub serial : r.serial ≡ serial_of (state_of new)
  pub changed : (r.changed ≡ false) ↔ LooksAlike (state_of old) (state_of new)
  pub stands : MatchesStatus old r.state new

-- a refusal leaves everything unchanged
pub record IsRefused (old : CoreValue) (e : Event) (r : Refusal) (new : CoreValue) : Type 0 where
  pub first : IsRefusalOf (state_of old) e r
  pub unchanged : new ≡ old

abbrev pub Applies : CoreValue → Event → Result Reply Refusal → CoreValue → Type 0
Applies old e (Ok reply) new = IsTaken old e reply new
Applies old e (Err refusal) new = IsRefused old e refusal new

-- the table reflects the whole journal
abbrev pub IsCurrent : CoreValue → Type 0
IsCurrent c = c.built ≡ length c.journal

-- named are the networks whose item differs, and what differs in the lists of what is due
pub record NamesDifferences (old new : CoreValue) : Type 0 where
  pub networks : AreChanges old.table.items new.table.items new.changes
  pub due : AreDueChanges new.due_changes old.summaries new.summaries

abbrev pub NamesNothing : CoreValue → Type 0
NamesNothing new = (new.changes ≡ []) × (new.due_changes ≡ [])

-- If an event finds the table current and leaves it current: the networks that differ. If the table
-- is behind before or after, nothing.
abbrev pub NamesChanges : CoreValue → Status → CoreValue → Type 0
NamesChanges old Current new = (IsCurrent old → NamesDifferences old new) × ((IsCurrent old → ⊥) → NamesNothing new)
NamesChanges old Behind new = NamesNothing new

-- If an event finds the table current and leaves it current, the work is the sum over the areas.
-- In each area it is bounded by what differs. If the table was behind before, everything is
-- built: the work is the sum over the areas of what is reached. If it is behind after, there is no
-- work.
abbrev pub HasBoundedWork : CoreValue → Status → CoreValue → Type 0
HasBoundedWork old Current new = (IsCurrent old → IsFollowingWork (state_of old) (state_of new) new.work) × ((IsCurrent old → ⊥) → IsBuildingWork (state_of new) new.work)
HasBoundedWork old Behind new = new.work ≡ no_work

-- the event is a second in which no LSA comes to MaxAge, and it finds the table current
pub record IsQuietSecond (old : CoreValue) (e : Event) : Type 0 where
  pub second : e ≡ event.Second
  pub none : All NoneComes (state_of old).databases
  pub current : IsCurrent old

-- Nothing usable differs, and the table is current: no vertex was taken from a queue, no set of
-- next hops was written, no item of the table and nothing that is due changed.
pub record DoesNothing (r : Reply) (new : CoreValue) : Type 0 where
  pub changed : r.changed ≡ false
  pub state : r.state ≡ Current
  pub work : new.work ≡ no_work
  pub changes : new.changes ≡ []
  pub due_changes : new.due_changes ≡ []

-- the changes, due changes and work after an event: its own if it was taken, and after a refusal
-- the previous ones
abbrev pub Tells : CoreValue → Result Reply Refusal → CoreValue → Type 0
Tells old (Ok reply) new = NamesChanges old reply.state new × HasBoundedWork old reply.state new
Tells old (Err refusal) new = (new.changes ≡ old.changes) × (new.due_changes ≡ old.due_changes) × (new.work ≡ old.work)

-- the results of events, one after the other; the changes in the end belong to the last event
-- taken, or the previous ones
abbrev pub Runs : CoreValue → List Event → List (Result Reply Refusal) → CoreValue → Type 0
Runs old [] [] new = new ≡ old
Runs old (e ∷ es) (r ∷ rs) new = (mid : CoreValue) × Applies old e r mid × Tells old r mid × Runs mid es rs new
Runs old [] (r ∷ rs) new = ⊥
Runs old (e ∷ es) [] new = ⊥

-- the first fault that the configuration has, or Memory where it has none
abbrev pub IsConfigFaultOf : Config → ConfigFault → Type 0
IsConfigFaultOf config f = (config_fault_of config ≡ Some f) ⊎ ((f ≡ Memory) × (config_fault_of config ≡ None))

-- the first fault that the base has; or Memory, before which only a fault of the configuration is
-- looked for
abbrev pub IsBaseFaultOf : Limits → Base → BaseFault → Type 0
IsBaseFaultOf limits base f = (base_fault_of limits base ≡ Some f) ⊎ ((f ≡ base_fault.Config Memory) × (config_fault_of base.config ≡ None))

-- no events were taken, and the table reflects the base
pub record IsOpening (given : Base) (most : Limits) (c : CoreValue) : Type 0 where
  pub sound : base_fault_of most given ≡ None
  pub base : c.base ≡ given
  pub limits : c.limits ≡ most
  pub journal : c.journal ≡ []
  pub built : c.built ≡ 0
  pub work : c.work ≡ no_work
  pub changes : c.changes ≡ []
  pub due_changes : c.due_changes ≡ []

-- the state as it is becomes the base, with no event since; all else is unchanged
pub record Rolls (old new : CoreValue) : Type 0 where
  pub base : IsBaseOf (state_of old) new.base
  pub state : state_of new ≡ since new.base (state_of old)
  pub limits : new.limits ≡ old.limits
  pub journal : new.journal ≡ []
  pub built : new.built ≡ 0
  pub table : new.table ≡ old.table
  pub summaries : new.summaries ≡ old.summaries
  pub work : new.work ≡ old.work
  pub changes : new.changes ≡ old.changes
  pub due_changes : new.due_changes ≡ old.due_changes

-- why a core is not rolled: table and due summaries are behind; or they are not, and memory ran out
abbrev pub IsRollRefusal : CoreValue → Refusal → Type 0
IsRollRefusal c r = ((r ≡ refusal.NotCurrent) × (¬ IsCurrent c)) ⊎ ((r ≡ refusal.Memory) × IsCurrent c)
