-- The events that are recorded of an OSPF packet.
use Rattle.std.specs.Prelude.{ℕ, ◌≡◌, Bool, true, false, List, [], ◌∷◌, ◌++◌, All, map, replicate, String, string_bytes}
use Rattle.std.specs.List.{flat_map}
use Rattle.ospf_types.specs.declared.key.Key.{Key}
use Rattle.ospf_types.specs.declared.key.Scope.{Scope}
use Rattle.ospf_types.specs.Lsa.{Lsa, key_of}
use Rattle.event_state.specs.declared.event.Event.{Event}
use Rattle.event_state.specs.declared.event.Event.TheVariants as event
use Rattle.captured_lsas.specs.declared.recorded.Recorded.{Recorded}
use Rattle.captured_lsas.specs.declared.recorded.Recorded.TheVariants as recorded
use Rattle.captured_lsas.specs.declared.taken.Taken.{Taken}
use Rattle.captured_lsas.specs.declared.taken.Taken.TheVariants as taken
use Rattle.recording.specs.declared.line.Line.TheVariants as line
use Rattle.recording.specs.declared.version.Version.{Version}
use Rattle.recording.specs.Forms.{IsForm}
use Rattle.recording.specs.Recordings.{event_form, text_of_forms, HasKind, HasWholeLsa, IsLineIn}
use Rattle.capture_recording.specs.Seconds.{recorded_of}

-- ---- which events

-- an LSA is installed
abbrev pub installed : Scope → Lsa → List Event
installed scope lsa = event.Install scope lsa ∷ []

-- an LSA leaves its database
abbrev pub purged : Scope → Key → List Event
purged scope key = event.Purge scope key ∷ []

-- an LSA is installed, and purged right after that if it is at MaxAge
abbrev pub install_events : Scope → Lsa → (purges : Bool) → List Event
install_events scope lsa true = installed scope lsa ++ purged scope (key_of lsa)
install_events scope lsa false = installed scope lsa

-- an LSA that is left out makes none
abbrev pub recorded_events : Recorded → List Event
recorded_events (recorded.Install scope lsa purges) = install_events scope lsa purges
recorded_events recorded.Repeated = []
recorded_events (recorded.OtherArea area is_first) = []
recorded_events (recorded.Fault fault) = []
recorded_events (recorded.Cut fault) = []

-- this number of seconds passes
abbrev pub second_events : ℕ → List Event
second_events seconds = replicate seconds event.Second

-- the seconds that are recorded, and then what comes of the LSAs, in their order
abbrev pub taken_events : Taken → List Event
taken_events (taken.Packet kind router area back seconds all) = second_events (recorded_of seconds) ++ flat_map recorded_events all.items
taken_events (taken.Fault fault) = []

-- ---- what is printed of them

-- the conditions on an event that has a line in a recording, in each version
pub record IsRecordable (e : Event) : Type 0 where
  pub form : IsForm (event_form e)
  pub kind : HasKind (line.Event e)
  pub lsa : HasWholeLsa (line.Event e)
  pub version : (v : Version) → IsLineIn v (line.Event e)

-- their lines, as a recording has them
abbrev pub lines_of : List Event → List ℕ
lines_of events = text_of_forms (map event_form events)

-- the lines of the events are appended to the old text
pub record AreAppended (old new : List ℕ) (events : List Event) : Type 0 where
  pub text : new ≡ old ++ lines_of events
  pub each : All IsRecordable events

abbrev pub GainsEvents : {Z : Type 0} → (old new : String Z) → List Event → Type 0
GainsEvents {Z} old new events = AreAppended (string_bytes old) (string_bytes new) events
