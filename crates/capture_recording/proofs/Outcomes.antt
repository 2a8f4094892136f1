-- The outcome of a capture that was read, or of which no more is recorded.
use Rattle.std.proofs.Common.{◌≡◌, ◌++◌, List, [], ℕ, Bool, true, false, Option, ◌⊎◌, inl, inr, Err, refl, sym, subst}
use Rattle.std.specs.Prelude.{string_bytes}
use Rattle.std.specs.Io.KnownBytes.{Appends}
use Rattle.ospf_types.specs.declared.fault.ConfigFault.{ConfigFault}
use Rattle.capture_recording.specs.Rules.{Rules}
use Rattle.captures.specs.Positions.{Position}
use Rattle.capture_recording.proofs.Gaining.{appended_none}
use Rattle.replay.specs.Writing.{AppendsPart}
use Rattle.replay.proofs.Written.{appends_none}
use Rattle.capture_recording.specs.declared.capturing.Preamble.{Preamble}
use Rattle.capture_recording.specs.declared.ending.Ending.{Ending}
use Rattle.capture_recording.specs.declared.ending.Ending.TheVariants.{Whole, Fault, Unread}
use Rattle.capture_recording.specs.declared.fault.CapturingFault.{CapturingFault}
use Rattle.capture_recording.specs.declared.fault.CapturingFault.TheVariants.{Capture, Read, Line, Config, Unsaid, Write, Closed, Memory}
use Rattle.capture_recording.specs.declared.session.Session.{Session}
use Rattle.capture_recording.specs.Ending.{first_position, IsEnding, result_of, fault_lacking, unless_silent}
use Rattle.capture_recording.specs.FirstPackets.{FirstPackets}
use Rattle.capture_recording.specs.Gathering.{past_of, waiting}
use Rattle.capture_recording.specs.Kept.{kept_if}
use Rattle.capture_recording.specs.Going.{IsRecordedTo}
use Rattle.capture_recording.specs.Outputs.{FaultOutcome, IsFront, IsCaptureRecorded, IsRecordedPart, Lacks, RuledOutcome}
use Rattle.capture_recording.specs.Said.{AppendsUpTo, HasSaid}
use Rattle.capture_recording.specs.Steps.{PacketStep, AreStepsTo, begun}
use Rattle.capture_recording.specs.Streaming.{IsGatheredUpTo, AreLinesPart, AreLinesUpTo, StreamsPart}
use Rattle.capture_recording.specs.Texts.{notes_of}
use Rattle.capture_recording.proofs.Recorded.{stays}
use Rattle.capture_recording.proofs.Said.{up_to_all, up_to_more, up_to_behind, part_behind, part_more}

-- ---- the packets so far

-- this holds of no packet
pub of_none : (rules : Rules) (before : Option (List ℕ)) (P : Position → List PacketStep → List ℕ → Type 0) → P first_position [] [] → FirstPackets rules before before P
unfolding AreStepsTo
of_none rules before P holds = record {
  steps = [];
  at = first_position;
  goes = stays before;
  are = (begun rules, refl);
  lines = [];
  are_lines = appended_none [];
  holds = holds;
}

-- this holds of those that were taken
pub of_taken : (rules : Rules) (router : Option ℕ) (before told_before : Option (List ℕ)) (at : Position) (left told : Option (List ℕ)) (session : Session) (written : List ℕ)
    (is : IsRecordedTo rules router before told_before at left told session written) (P : Position → List PacketStep → List ℕ → Type 0)
    → P at is.steps (written ++ waiting session) → FirstPackets rules before left P
of_taken rules router before told_before at left told session written is P holds = record {
  steps = is.steps;
  at = at;
  goes = is.goes;
  are = (past_of session.gathered, is.gathered.are);
  lines = written ++ waiting session;
  are_lines = is.lines;
  holds = holds;
}

-- the first packets have another property too
pub of_same : (rules : Rules) (before left : Option (List ℕ)) (P Q : Position → List PacketStep → List ℕ → Type 0) → ((at : Position) (steps : List PacketStep) (lines : List ℕ) → P at steps lines → Q at steps lines)
    → FirstPackets rules before left P → FirstPackets rules before left Q
of_same rules before left P Q so is = record { steps = is.steps; at = is.at; goes = is.goes; are = is.are; lines = is.lines; are_lines = is.are_lines; holds = so is.at is.steps is.lines is.holds }

-- ---- memory ran out, or the lines could not be written

pub none_gathered : (rules : Rules) (before told : Option (List ℕ)) → IsGatheredUpTo rules before told told
none_gathered rules before told = (before, of_none rules before (λ at steps lines. AppendsUpTo told told (notes_of steps)) (up_to_all told told [] (appends_none told)))

pub none_streamed : (rules : Rules) (before old told : Option (List ℕ)) → AreLinesUpTo rules before old old told told
none_streamed rules before old told = (
  before,
  of_none rules before (λ at steps lines. AppendsUpTo old old lines × AppendsUpTo told told (notes_of steps))
      (up_to_all old old [] (appends_none old), up_to_all told told [] (appends_none told)),
)

module _ (rules : Rules) (router : Option ℕ) (before told_before : Option (List ℕ)) (at : Position) (left told : Option (List ℕ)) (session : Session) (written : List ℕ)
    (is : IsRecordedTo rules router before told_before at left told session written) where
  said_so_far : (now : Option (List ℕ)) → now ≡ told → AppendsUpTo told_before now (notes_of is.steps)
  said_so_far now same = subst (λ (t : Option (List ℕ)). AppendsUpTo told_before t (notes_of is.steps)) (sym same) is.said.begun

  pub some_gathered : (now : Option (List ℕ)) → now ≡ told → IsGatheredUpTo rules before told_before now
  some_gathered now same = (left, of_taken rules router before told_before at left told session written is (λ at steps lines. AppendsUpTo told_before now (notes_of steps)) (said_so_far now same))

  pub some_streamed : (old new now : Option (List ℕ)) → Appends old new written → now ≡ told → AreLinesUpTo rules before old new told_before now
  some_streamed old new now appended same = (
    left,
    of_taken rules router before told_before at left told session written is (λ at steps lines. AppendsUpTo old new lines × AppendsUpTo told_before now (notes_of steps))
        (up_to_more old new written (waiting session) (up_to_all old new written appended), said_so_far now same),
  )

  pub part_streamed : (old mid new : Option (List ℕ)) → Appends old mid written → AppendsPart mid new (string_bytes session.lines) → AreLinesPart rules before left old new told_before told
  part_streamed old mid new appended part = of_taken rules router before told_before at left told session written is (λ at steps lines. AppendsPart old new lines × AppendsUpTo told_before told (notes_of steps))
      (part_behind old mid new written (waiting session) appended (part_more mid new (string_bytes session.lines) (kept_if session.kept) part), is.said.begun)

-- the writing failed
pub streams_part : (rules : Rules) (before after old new told_before told : Option (List ℕ)) (fault : CapturingFault) → (fault ≡ Write) ⊎ (fault ≡ Closed) → AreLinesPart rules before after old new told_before told
    → StreamsPart rules before after old new told_before told fault
streams_part rules before after old new told_before told fault (inl is) part = subst (StreamsPart rules before after old new told_before told) (sym is) part
streams_part rules before after old new told_before told fault (inr is) part = subst (StreamsPart rules before after old new told_before told) (sym is) part

-- ---- outcomes

module _ (rules : Rules) (beginning : Preamble) (before after old new told_before told : Option (List ℕ)) where
  pub outcome_part : (fault : CapturingFault) → (fault ≡ Write) ⊎ (fault ≡ Closed) → IsRecordedPart rules beginning before after old new told_before told
      → FaultOutcome rules beginning before after old new told_before told fault
  outcome_part fault (inl is) part = subst (FaultOutcome rules beginning before after old new told_before told) (sym is) part
  outcome_part fault (inr is) part = subst (FaultOutcome rules beginning before after old new told_before told) (sym is) part

  -- the front was written before
  pub outcome_streamed : (mid : Option (List ℕ)) (front : List ℕ) → ((steps : List PacketStep) → IsFront beginning steps front) → Appends old mid front → (fault : CapturingFault)
      → StreamsPart rules before after mid new told_before told fault → FaultOutcome rules beginning before after old new told_before told fault
  outcome_streamed mid front is written (Capture kind place) part = absurd part
  outcome_streamed mid front is written Read part = absurd part
  outcome_streamed mid front is written (Line fault) part = absurd part
  outcome_streamed mid front is written (Config fault) part = absurd part
  outcome_streamed mid front is written Unsaid part = absurd part
  outcome_streamed mid front is written Write part = of_same rules before after _ _
      (λ at steps lines p. (record { front = front; is = is steps; written = part_behind old mid new front lines written p.0 }, p.1)) part
  outcome_streamed mid front is written Closed part = of_same rules before after _ _
      (λ at steps lines p. (record { front = front; is = is steps; written = part_behind old mid new front lines written p.0 }, p.1)) part
  outcome_streamed mid front is written Memory part = (
    part.0,
    of_same rules before part.0 _ _
        (λ at steps lines p. (inr (record { front = front; is = is steps; written = up_to_behind old mid new front lines written p.0 }), p.1)) part.1,
  )

  -- all is recorded, and said if nothing could not be
  pub outcome_recorded : (ending : Ending) (is_silent : Bool) → IsCaptureRecorded rules beginning before after old new (λ at. IsEnding ending at after) (HasSaid told_before told is_silent)
      → RuledOutcome rules beginning before after old new told_before told (unless_silent is_silent (result_of ending))
  outcome_recorded ending true is = inl (of_same rules before after _ _ (λ at steps lines p. ((ending, p.0), p.1, p.2.part refl)) is)
  outcome_recorded Whole false is = of_same rules before after _ _ (λ at steps lines p. (p.0, p.1, p.2.whole refl)) is
  outcome_recorded (Fault kind place) false is = inl (of_same rules before after _ _ (λ at steps lines p. (p.0, p.1, p.2.whole refl)) is)
  outcome_recorded Unread false is = inl (of_same rules before after _ _ (λ at steps lines p. (p.0, p.1, p.2.whole refl)) is)

  -- the configuration has a fault
  pub outcome_lacking : (ending : Ending) (fault : ConfigFault) (is_silent : Bool) → Lacks rules beginning before after old new (λ at. IsEnding ending at after) (HasSaid told_before told is_silent) fault
      → RuledOutcome rules beginning before after old new told_before told (unless_silent is_silent (Err (fault_lacking ending fault)))
  outcome_lacking ending fault true is = inr (fault, of_same rules before after _ _ (λ at steps lines p. ((ending, p.0), p.1, p.2, p.3.part refl)) is)
  outcome_lacking Whole fault false is = of_same rules before after _ _ (λ at steps lines p. (p.0, p.1, p.2, p.3.whole refl)) is
  outcome_lacking (Fault kind place) fault false is = inr (fault, of_same rules before after _ _ (λ at steps lines p. (p.0, p.1, p.2, p.3.whole refl)) is)
  outcome_lacking Unread fault false is = inr (fault, of_same rules before after _ _ (λ at steps lines p. (p.0, p.1, p.2, p.3.whole refl)) is)
