-- The changes of the gathered results by one packet.
use Rattle.std.specs.Prelude.{ℕ, ◌≡◌, ◌++◌, false, List, [], Option, None, Some, option_map, string_bytes}
use Rattle.captures.specs.Runs.{ShownPacket}
use Rattle.captured_config.specs.Facts.{Facts, facts_of}
use Rattle.captured_config.specs.Lsas.{Captured}
use Rattle.capture_recording.specs.Rules.{Rules}
use Rattle.captured_lsas.specs.declared.taken.Taken.{Taken}
use Rattle.captured_lsas.specs.Packets.{IsPacketTaken, with_packet}
use Rattle.captured_lsas.specs.Progress.{start}
use Rattle.capture_recording.specs.Counts.{with_taken}
use Rattle.capture_recording.specs.Events.{AreAppended, taken_events}
use Rattle.capture_recording.specs.Kept.{kept_if}
use Rattle.capture_recording.specs.Notes.{taken_text}
use Rattle.capture_recording.specs.declared.gathered.Gathered.{Gathered}
use Rattle.capture_recording.specs.declared.session.Session.{Session}
use Rattle.capture_recording.specs.Steps.{PacketStep, Past, IsStep, AreStepsTo, begun}
use Rattle.capture_recording.specs.Texts.{step_events, step_notes}
use Rattle.capture_recording.specs.Folds.{none_counted, with_step_counted, with_taken_area, with_step_area, with_taken_lsas, with_step_lsas, counts_of, areas_of, captured_of}

-- ---- at first

-- the facts about the router, if they are wanted
abbrev pub config_of : Option ℕ → List PacketStep → Option Captured
config_of router steps = option_map (λ r. captured_of r steps) router

-- the facts that are kept of it
abbrev pub AreFactsOf : Option Captured → Option Facts → Type 0
AreFactsOf known facts = facts ≡ option_map facts_of known

abbrev pub first_gathered : Rules → (router : Option ℕ) → Gathered
first_gathered rules router = record { listener = []; recorder = start rules.options rules.areas; counts = none_counted; areas = []; config = option_map facts_of (config_of router []) }

-- the lines that are not written yet
abbrev pub waiting : Session → List ℕ
waiting session = string_bytes session.lines ++ kept_if session.kept

pub record IsFirstSession (rules : Rules) (router : Option ℕ) (session : Session) : Type 0 where
  pub gathered : session.gathered ≡ first_gathered rules router
  pub lines : string_bytes session.lines ≡ []
  pub none : kept_if session.kept ≡ []
  pub keeps : router ≡ None → session.kept ≡ None
  pub notes : string_bytes session.notes.text ≡ []
  pub speaks : session.notes.is_silent ≡ false

-- ---- a packet

abbrev pub past_of : Gathered → Past
past_of g = record { parts = g.listener; progress = g.recorder }

-- only the listener and the counts may be others
pub record HearsOnly (old new : Gathered) : Type 0 where
  pub recorder : new.recorder ≡ old.recorder
  pub areas : new.areas ≡ old.areas
  pub config : new.config ≡ old.config

-- only the areas and what is known of the router may be others
pub record NotesOnly (old new : Gathered) : Type 0 where
  pub listener : new.listener ≡ old.listener
  pub recorder : new.recorder ≡ old.recorder
  pub counts : new.counts ≡ old.counts

-- a payload is taken
pub record TakesPayload (old new : Session) (time : Option ℕ) (sender : ℕ) (payload : List ℕ) : Type 0 where
  pub taken : Taken
  pub is : IsPacketTaken old.gathered.recorder time payload taken
  pub recorder : new.gathered.recorder ≡ with_packet old.gathered.recorder time payload
  pub listener : new.gathered.listener ≡ old.gathered.listener
  pub counts : new.gathered.counts ≡ with_taken old.gathered.counts taken
  pub areas : new.gathered.areas ≡ with_taken_area old.gathered.areas taken
  pub config : (known : Option Captured) → AreFactsOf known old.gathered.config → AreFactsOf (option_map (λ c. with_taken_lsas c taken) known) new.gathered.config
  pub lines : AreAppended (waiting old) (waiting new) (taken_events taken)
  pub keeps : old.kept ≡ None → new.kept ≡ None
  pub notes : string_bytes new.notes.text ≡ string_bytes old.notes.text ++ taken_text time (Some sender) taken
  pub silent : new.notes.is_silent ≡ old.notes.is_silent

-- the results of a packet are kept
pub record GathersPacket (old : Gathered) (step : PacketStep) (new : Gathered) : Type 0 where
  pub is : IsStep (past_of old) step (past_of new)
  pub counts : new.counts ≡ with_step_counted old.counts step
  pub areas : new.areas ≡ with_step_area old.areas step
  pub config : (known : Option Captured) → AreFactsOf known old.config → AreFactsOf (option_map (λ c. with_step_lsas c step) known) new.config

-- a packet is taken
pub record TakesPacket (old new : Session) (packet : ShownPacket) : Type 0 where
  pub step : PacketStep
  pub of : step.packet ≡ packet
  pub gathers : GathersPacket old.gathered step new.gathered
  pub lines : AreAppended (waiting old) (waiting new) (step_events step)
  pub keeps : old.kept ≡ None → new.kept ≡ None
  pub notes : string_bytes new.notes.text ≡ string_bytes old.notes.text ++ step_notes step
  pub silent : new.notes.is_silent ≡ old.notes.is_silent

-- ---- the first packets

-- the results of the packets are kept
pub record AreGathered (rules : Rules) (router : Option ℕ) (steps : List PacketStep) (g : Gathered) : Type 0 where
  pub are : AreStepsTo (begun rules) steps (past_of g)
  pub counts : g.counts ≡ counts_of steps
  pub areas : g.areas ≡ areas_of steps
  pub config : AreFactsOf (config_of router steps) g.config
