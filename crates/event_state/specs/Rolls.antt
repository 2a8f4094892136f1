-- A base that a state is rolled into: the events before it are forgotten, and what they made is
-- not.
use Rattle.std.specs.Prelude.{◌≡◌, ◌+◌, List, [], length, None}
use Rattle.std.specs.FinMap.{entries}
use Rattle.event_state.specs.declared.base.Base.{Base}
use Rattle.event_state.specs.declared.event.Event.{Event}
use Rattle.event_state.specs.declared.limits.Limits.{Limits}
use Rattle.event_state.specs.BaseFaults.{base_fault_of}
use Rattle.event_state.specs.States.{AreAreasApart, State, serial_of}
use Rattle.event_state.specs.Steps.{opening, run_of, IsLegalList}
use Rattle.event_state.specs.Listings.{AreLsas}

-- the state with this base and no event since; its databases, interfaces and configuration stay
abbrev pub since : Base → State → State
since b s = record s { base = b; journal = [] }

-- the base is the state as it is: ranges, serial, interfaces, and each LSA at its present age
pub record IsBaseOf (s : State) (b : Base) : Type 0 where
  pub config : b.config ≡ s.config
  pub serial : b.serial ≡ serial_of s
  pub interfaces : b.interfaces ≡ entries s.interfaces
  pub lsas : AreLsas s b.lsas

-- the base is the state after these events, which are legal from the first base
pub record IsRolled (first : Base) (limits : Limits) (rolled : List Event) (b : Base) : Type 0 where
  pub legal : IsLegalList first limits rolled
  pub state : opening b limits ≡ since b (run_of first limits rolled)
  pub serial : b.serial ≡ first.serial + length rolled

-- if no two areas have one Area ID, the state is that with which the base begins
abbrev pub BeginsAgain : (old : State) (base : Base) (new : State) → Type 0
BeginsAgain old base new = AreAreasApart old.config.areas → new ≡ opening base old.limits

-- a base that is the state as it is has no fault
abbrev pub CanBeRolled : State → Type 0
CanBeRolled s = (b : Base) → IsBaseOf s b → base_fault_of s.limits b ≡ None
