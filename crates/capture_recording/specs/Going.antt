-- The part of a capture that is recorded so far.
use Rattle.std.specs.Prelude.{ℕ, ◌≡◌, ◌++◌, List, [], ◌∷◌, Option, None, Some, string_bytes}
use Rattle.captures.specs.Positions.{Position, GoesOn}
use Rattle.capture_recording.specs.Rules.{Rules}
use Rattle.capture_recording.specs.Events.{AreAppended}
use Rattle.capture_recording.specs.declared.ending.Ending.{Ending}
use Rattle.capture_recording.specs.declared.going.Ended.{Ended}
use Rattle.capture_recording.specs.declared.session.Session.{Session}
use Rattle.capture_recording.specs.Ending.{first_position, IsEnding}
use Rattle.capture_recording.specs.Gathering.{AreGathered, GathersPacket, waiting}
use Rattle.capture_recording.specs.Said.{HasSaid}
use Rattle.capture_recording.specs.Steps.{PacketStep, packets_of}
use Rattle.capture_recording.specs.Texts.{AreLines, notes_of, step_events, step_notes}

-- If the preamble is given, no line is held back while no byte of the next packet is at hand: a
-- read of the input may wait.
abbrev pub IsLineDue : Position → Session → Type 0
IsLineDue at session = session.gathered.config ≡ None → at.pending ≡ [] → waiting session ≡ []

-- the next packet is read and taken
pub record TakesNextPacket (from : Position) (before : Option (List ℕ)) (to : Position) (after : Option (List ℕ)) (old new : Session) (told_before told : Option (List ℕ)) : Type 0 where
  pub step : PacketStep
  pub goes : GoesOn from before to after (step.packet ∷ [])
  pub gathers : GathersPacket old.gathered step new.gathered
  pub lines : AreAppended (waiting old) (waiting new) (step_events step)
  pub keeps : old.kept ≡ None → new.kept ≡ None
  pub none : string_bytes new.notes.text ≡ []
  pub said : string_bytes old.notes.text ≡ [] → (first : Option (List ℕ)) (text : List ℕ) → HasSaid first told_before old.notes.is_silent text
      → HasSaid first told new.notes.is_silent (text ++ step_notes step)

-- there is none
pub record EndsNow (from : Position) (before : Option (List ℕ)) (to : Position) (after : Option (List ℕ)) (old new : Session) (told_before told : Option (List ℕ)) (ending : Ending) : Type 0 where
  pub goes : GoesOn from before to after []
  pub ended : IsEnding ending to after
  pub session : new ≡ old
  pub unsaid : told ≡ told_before

-- the next packet is read and taken, or there is none
abbrev pub HandsNext : (from : Position) (before : Option (List ℕ)) (to : Position) (after : Option (List ℕ)) (old new : Session) (told_before told : Option (List ℕ)) → Option Ending → Type 0
HandsNext from before to after old new told_before told None = TakesNextPacket from before to after old new told_before told
HandsNext from before to after old new told_before told (Some ending) = EndsNow from before to after old new told_before told ending

-- The first packets of an input were taken. Some of their lines were written, the others wait: as
-- text, if the preamble is given.
pub record IsRecordedTo (rules : Rules) (router : Option ℕ) (before told_before : Option (List ℕ)) (to : Position) (after told : Option (List ℕ)) (session : Session) (written : List ℕ) : Type 0 where
  pub steps : List PacketStep
  pub goes : GoesOn first_position before to after (packets_of steps)
  pub gathered : AreGathered rules router steps session.gathered
  pub lines : AreLines steps (written ++ waiting session)
  pub keeps : router ≡ None → session.kept ≡ None
  pub none : string_bytes session.notes.text ≡ []
  pub said : HasSaid told_before told session.notes.is_silent (notes_of steps)

-- no more come
pub record GoesThrough (rules : Rules) (router : Option ℕ) (before told_before after told : Option (List ℕ)) (ended : Ended) (written : List ℕ) : Type 0 where
  pub to : Position
  pub recorded : IsRecordedTo rules router before told_before to after told ended.session written
  pub ending : IsEnding ended.ending to after
