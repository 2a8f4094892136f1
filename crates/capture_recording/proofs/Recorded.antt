-- The part of a capture that is recorded, packet by packet.
use Rattle.std.proofs.Common.{◌≡◌, ◌∙◌, ◌++◌, List, [], ◌∷◌, ℕ, Option, None, Some, refl, ap, ap₂, sym, subst, append_assoc, append-nil, lit<}
use Rattle.std.specs.Prelude.{string_bytes, String}
use Rattle.std.specs.Io.KnownBytes.{Keeps}
use Rattle.std.proofs.lemmas.List.{map-append}
use Rattle.captures.specs.Reading.{unread}
use Rattle.captures.specs.Positions.{Position, GoesOn}
use Rattle.captures.proofs.Going.{both_ways, reads_none}
use Rattle.capture_recording.specs.Rules.{Rules}
use Rattle.capture_recording.proofs.Gained.{appended_behind, appended_more}
use Rattle.capture_recording.proofs.Gaining.{appended_none}
use Rattle.capture_recording.specs.Events.{AreAppended}
use Rattle.capture_recording.specs.declared.ending.Ending.{Ending}
use Rattle.capture_recording.specs.declared.session.Session.{Session}
use Rattle.capture_recording.specs.Ending.{first_position}
use Rattle.capture_recording.specs.Gathering.{IsFirstSession, waiting}
use Rattle.capture_recording.specs.Kept.{kept_if}
use Rattle.capture_recording.specs.Going.{IsRecordedTo, GoesThrough, HandsNext, TakesNextPacket, EndsNow}
use Rattle.capture_recording.specs.Said.{HasSaid}
use Rattle.capture_recording.specs.Steps.{PacketStep, packets_of}
use Rattle.capture_recording.specs.Texts.{AreLines, events_of, notes_of, step_events, step_notes}
use Rattle.capture_recording.proofs.Stepping.{gathered_first, gathered_more, flat_map_more}
use Rattle.capture_recording.proofs.Said.{said_nothing}

keeps_all : (left : Option (List ℕ)) → Keeps left left
keeps_all None = tt
keeps_all (Some xs) = refl

pub stays : (left : Option (List ℕ)) → GoesOn first_position left first_position left []
stays left = reads_none unread 0 [] [] 0 left left (keeps_all left) refl (lit< tt)

-- ---- no packet came

pub none_waiting : (rules : Rules) (router : Option ℕ) (session : Session) → IsFirstSession rules router session → waiting session ≡ []
none_waiting rules router session first = ap₂ (λ (xs ys : List ℕ). xs ++ ys) first.lines first.none

-- no event is kept, and no line is left
pub nothing_waits : (session : Session) → session.kept ≡ None → string_bytes session.lines ≡ [] → waiting session ≡ []
nothing_waits session none empty = ap₂ (λ (xs : List ℕ) (kept : Option (List ℕ)). xs ++ kept_if kept) empty none

pub recorded_first : (rules : Rules) (router : Option ℕ) (before told : Option (List ℕ)) (at : Position) (session : Session) → IsFirstSession rules router session → at ≡ first_position
    → IsRecordedTo rules router before told at before told session []
recorded_first rules router before told at session first begins = record {
  steps = [];
  goes = subst (λ p. GoesOn first_position before p before []) (sym begins) (stays before);
  gathered = gathered_first rules router session.gathered first.gathered;
  lines = subst (AreLines []) (sym (none_waiting rules router session first)) (appended_none []);
  keeps = first.keeps;
  none = first.notes;
  said = said_nothing told session.notes.is_silent first.speaks;
}

-- ---- one more packet

-- the lines of one more packet
lines_more : (written old new : List ℕ) (steps : List PacketStep) (step : PacketStep) → AreLines steps (written ++ old) → AreAppended old new (step_events step) → AreLines (steps ++ step ∷ []) (written ++ new)
lines_more written old new steps step are more =
    let behind = appended_behind written old new (step_events step) more in
    subst (AreAppended [] (written ++ new)) (sym (flat_map_more step_events steps step))
    (appended_more [] (written ++ old) (written ++ new) (events_of steps) (step_events step) are behind)

packets_more : (steps : List PacketStep) (step : PacketStep) → packets_of (steps ++ step ∷ []) ≡ packets_of steps ++ step.packet ∷ []
packets_more steps step = map-append (λ s. s.packet) steps (step ∷ [])

module _ (rules : Rules) (router : Option ℕ) (before told_before : Option (List ℕ)) (at to : Position) (left after told_at told : Option (List ℕ)) (old new : Session) (written : List ℕ)
    (is : IsRecordedTo rules router before told_before at left told_at old written) where
  pub recorded_more : TakesNextPacket at left to after old new told_at told → IsRecordedTo rules router before told_before to after told new written
  recorded_more takes = record {
    steps = is.steps ++ takes.step ∷ [];
    goes = subst (GoesOn first_position before to after) (sym (packets_more is.steps takes.step)) (both_ways first_position at to before left after (packets_of is.steps) (takes.step.packet ∷ []) is.goes takes.goes);
    gathered = gathered_more rules router is.steps takes.step old.gathered new.gathered is.gathered takes.gathers;
    lines = lines_more written (waiting old) (waiting new) is.steps takes.step is.lines takes.lines;
    keeps = λ streams. takes.keeps (is.keeps streams);
    none = takes.none;
    said = subst (HasSaid told_before told new.notes.is_silent) (sym (flat_map_more step_notes is.steps takes.step)) (takes.said is.none told_before (notes_of is.steps) is.said);
  }

  -- no more comes
  recorded_ended : (ending : Ending) → EndsNow at left to after old new told_at told ending → IsRecordedTo rules router before told_before to after told new written
  recorded_ended ending ends =
      subst (λ (s : Session). IsRecordedTo rules router before told_before to after told s written) (sym ends.session)
      (subst (λ (t : Option (List ℕ)). IsRecordedTo rules router before told_before to after t old written) (sym ends.unsaid) (record {
        steps = is.steps;
        goes = subst (GoesOn first_position before to after) (append-nil (packets_of is.steps)) (both_ways first_position at to before left after (packets_of is.steps) [] is.goes ends.goes);
        gathered = is.gathered;
        lines = is.lines;
        keeps = is.keeps;
        none = is.none;
        said = is.said;
      }))

  pub gone_through : (ending : Ending) → EndsNow at left to after old new told_at told ending → GoesThrough rules router before told_before after told (record { session = new; ending = ending }) written
  gone_through ending ends = record { to = to; recorded = recorded_ended ending ends; ending = ends.ended }

-- lines are written
pub recorded_written : (rules : Rules) (router : Option ℕ) (before told_before : Option (List ℕ)) (at : Position) (left told : Option (List ℕ)) (session : Session) (written front : List ℕ) (kept : String _)
    → IsRecordedTo rules router before told_before at left told session written → string_bytes session.lines ≡ front ++ string_bytes kept
    → IsRecordedTo rules router before told_before at left told (record session { lines = kept }) (written ++ front)
recorded_written rules router before told_before at left told session written front kept is parts = record {
  steps = is.steps;
  goes = is.goes;
  gathered = is.gathered;
  lines = subst (AreLines is.steps) (ap (λ l. written ++ (l ++ kept_if session.kept)) parts ∙ ap (λ l. written ++ l) (append_assoc front (string_bytes kept) (kept_if session.kept)) ∙ sym (append_assoc written front (string_bytes kept ++ kept_if session.kept))) is.lines;
  keeps = is.keeps;
  none = is.none;
  said = is.said;
}

-- ---- what the next step came to

module _ (from to : Position) (before after told_before told : Option (List ℕ)) (old new : Session) (found : Option Ending) (hands : HandsNext from before to after old new told_before told found) where
  pub took : found ≡ None → TakesNextPacket from before to after old new told_before told
  took none = subst (HandsNext from before to after old new told_before told) none hands

  pub ended : (ending : Ending) → found ≡ Some ending → EndsNow from before to after old new told_before told ending
  ended ending some = subst (HandsNext from before to after old new told_before told) some hands
