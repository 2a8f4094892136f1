-- The end of a capture that was read.
use Rattle.std.proofs.Common.{◌≡◌, ◌∙◌, ◌++◌, List, [], ℕ, Option, Some, ◌⊎◌, inl, inr, Result, Err, Bool, refl, ap, sym, subst, append_assoc, append-nil}
use Rattle.std.specs.Prelude.{length}
use Rattle.std.specs.Io.KnownBytes.{Appends}
use Rattle.ospf_types.specs.Configs.{config_fault_of}
use Rattle.ospf_types.specs.declared.fault.ConfigFault.{ConfigFault}
use Rattle.captured_config.specs.Configs.{config_of as config_by}
use Rattle.captured_config.specs.Facts.{facts_of}
use Rattle.captured_config.specs.Fronts.{captured_recording}
use Rattle.capture_recording.specs.Counts.{counts_line}
use Rattle.capture_recording.specs.Rules.{Rules}
use Rattle.recording.specs.Recordings.{IsText}
use Rattle.replay.specs.Writing.{AppendsPart}
use Rattle.replay.proofs.Written.{appends_none, appends_more}
use Rattle.capture_recording.specs.declared.capturing.Preamble.{Preamble}
use Rattle.capture_recording.specs.declared.capturing.Preamble.TheVariants.{Given, Router}
use Rattle.capture_recording.specs.declared.fault.CapturingFault.{CapturingFault}
use Rattle.capture_recording.specs.declared.fault.CapturingFault.TheVariants.{Capture, Read, Line, Config, Unsaid, Write, Closed, Memory}
use Rattle.capture_recording.specs.declared.gathered.Gathered.{Gathered}
use Rattle.capture_recording.specs.declared.going.Ended.{Ended}
use Rattle.capture_recording.specs.Ending.{fault_lacking, result_of, unless_silent}
use Rattle.capture_recording.specs.Finishing.{IsCaptureBegun, IsBehind, IsLacking, IsWhollyWritten, router_of, unknown_if}
use Rattle.capture_recording.specs.Folds.{areas_of, captured_of, counts_of}
use Rattle.capture_recording.specs.Gathering.{AreGathered, config_of, waiting}
use Rattle.capture_recording.specs.Going.{GoesThrough}
use Rattle.capture_recording.specs.Outputs.{FaultOutcome, IsFront, RuledOutcome, IsRecordedUpTo, counts_text, unknown_of}
use Rattle.capture_recording.specs.Said.{AppendsUpTo, HasSaid, WritesSaidPart}
use Rattle.capture_recording.specs.Steps.{PacketStep}
use Rattle.capture_recording.specs.Texts.{notes_of}
use Rattle.capture_recording.proofs.Outcomes.{of_none, of_taken, outcome_part, outcome_recorded, outcome_lacking}
use Rattle.capture_recording.proofs.Said.{up_to_all, up_to_behind, part_behind, part_more}

-- ---- what is said at the end

unknown_is : (beginning : Preamble) (steps : List PacketStep) → unknown_if (config_of (router_of beginning) steps) (areas_of steps) ≡ unknown_of beginning steps
unknown_is (Given bytes) steps = refl
unknown_is (Router router) steps = refl

module _ (rules : Rules) (router : Option ℕ) (steps : List PacketStep) (g : Gathered) (are : AreGathered rules router steps g) where
  counts_are : counts_line g.counts (length g.areas) ≡ counts_text steps
  counts_are = ap (λ c. counts_line c (length g.areas)) are.counts ∙ ap (λ a. counts_line (counts_of steps) (length a)) are.areas

  unknown_are : unknown_if (config_of router steps) g.areas ≡ unknown_if (config_of router steps) (areas_of steps)
  unknown_are = ap (unknown_if (config_of router steps)) are.areas

ends_are : (rules : Rules) (beginning : Preamble) (steps : List PacketStep) (g : Gathered) → AreGathered rules (router_of beginning) steps g
    → unknown_if (config_of (router_of beginning) steps) g.areas ++ counts_line g.counts (length g.areas) ≡ unknown_of beginning steps ++ counts_text steps
ends_are rules beginning steps g are =
    ap (λ l. l ++ counts_line g.counts (length g.areas)) (unknown_are rules (router_of beginning) steps g are ∙ unknown_is beginning steps)
    ∙ ap (λ l. unknown_of beginning steps ++ l) (counts_are rules (router_of beginning) steps g are)

-- ---- a front was written

module _ (rules : Rules) (beginning : Preamble) (before after old now told_before told : Option (List ℕ)) (ended : Ended) (is : IsCaptureBegun rules beginning before after old now told_before told ended) where
  lines_part : (new : Option (List ℕ)) (fault : CapturingFault) → (fault ≡ Write) ⊎ (fault ≡ Closed) → AppendsPart now new (waiting ended.session) → FaultOutcome rules beginning before after old new told_before told fault
  lines_part new fault kind part =
      let all = subst (AppendsPart old new) (append_assoc is.front is.written (waiting ended.session)) (part_behind old now new (is.front ++ is.written) (waiting ended.session) is.begun part) in
      outcome_part rules beginning before after old new told_before told fault kind
      (of_taken rules (router_of beginning) before told_before is.through.to after told ended.session is.written is.through.recorded _
      (record { front = is.front; is = is.is; written = all }, is.through.recorded.said.begun))

  lines_up_to : (new : Option (List ℕ)) → AppendsUpTo now new (waiting ended.session) → IsRecordedUpTo rules beginning before old new told_before told
  lines_up_to new part =
      let all = subst (AppendsUpTo old new) (append_assoc is.front is.written (waiting ended.session)) (up_to_behind old now new (is.front ++ is.written) (waiting ended.session) is.begun part) in (
        after,
        of_taken rules (router_of beginning) before told_before is.through.to after told ended.session is.written is.through.recorded _
            (inr (record { front = is.front; is = is.is; written = all }), is.through.recorded.said.begun),
      )

  -- the lines that are left could not be written
  pub lines_unwritten : (new : Option (List ℕ)) (fault : CapturingFault) → WritesSaidPart now new (waiting ended.session) fault → FaultOutcome rules beginning before after old new told_before told fault
  lines_unwritten new (Capture kind place) part = absurd part
  lines_unwritten new Read part = absurd part
  lines_unwritten new (Line fault) part = absurd part
  lines_unwritten new (Config fault) part = absurd part
  lines_unwritten new Unsaid part = absurd part
  lines_unwritten new Write part = lines_part new Write (inl refl) part
  lines_unwritten new Closed part = lines_part new Closed (inr refl) part
  lines_unwritten new Memory part = lines_up_to new part

  pub lines_written : (new : Option (List ℕ)) → Appends now new (waiting ended.session) → IsWhollyWritten rules beginning before after old new told_before told ended
  lines_written new written = record {
    written = is.written;
    through = is.through;
    all = record {
      front = is.front;
      is = is.is;
      written = subst (Appends old new) (append_assoc is.front is.written (waiting ended.session)) (appends_more old now new (is.front ++ is.written) (waiting ended.session) is.begun written);
    };
  }

-- ---- all was written

module _ (rules : Rules) (beginning : Preamble) (before after old new told_before told : Option (List ℕ)) (ended : Ended) (is : IsWhollyWritten rules beginning before after old new told_before told ended) where
  -- memory ran out
  pub end_unsaid : IsRecordedUpTo rules beginning before old new told_before told
  end_unsaid = (
    after,
    of_taken rules (router_of beginning) before told_before is.through.to after told ended.session is.written is.through.recorded _
        (inr (record { front = is.all.front; is = is.all.is; written = up_to_all old new _ is.all.written }), is.through.recorded.said.begun),
  )

  pub end_said : (now : Option (List ℕ)) (is_silent : Bool) (text : List ℕ)
      → HasSaid told_before now is_silent (notes_of is.through.recorded.steps ++ text) → text ≡ unknown_if (config_of (router_of beginning) is.through.recorded.steps) ended.session.gathered.areas ++ counts_line ended.session.gathered.counts (length ended.session.gathered.areas)
      → (answer all : Result (Unit {0}) CapturingFault) → answer ≡ unless_silent is_silent all → all ≡ result_of ended.ending → RuledOutcome rules beginning before after old new told_before now answer
  end_said now is_silent text said same answer all answers all_is =
      let steps = is.through.recorded.steps in
      let notes = subst (λ (l : List ℕ). HasSaid told_before now is_silent (notes_of steps ++ l)) (same ∙ ends_are rules beginning steps ended.session.gathered is.through.recorded.gathered) said in
      subst (RuledOutcome rules beginning before after old new told_before now) (sym (answers ∙ ap (unless_silent is_silent) all_is))
      (outcome_recorded rules beginning before after old new told_before now ended.ending is_silent
      (of_taken rules (router_of beginning) before told_before is.through.to after told ended.session is.written is.through.recorded _
      (is.through.ending, is.all, notes)))

-- ---- the front is not written yet

module _ (rules : Rules) (beginning : Preamble) (before after told_before told : Option (List ℕ)) (ended : Ended) (front : List ℕ) (is : IsBehind rules beginning before after told_before told ended front) where
  pub front_unwritten : (old new : Option (List ℕ)) (fault : CapturingFault) → (fault ≡ Write) ⊎ (fault ≡ Closed) → AppendsPart old new front → FaultOutcome rules beginning before after old new told_before told fault
  front_unwritten old new fault kind part =
      outcome_part rules beginning before after old new told_before told fault kind
      (of_taken rules (router_of beginning) before told_before is.through.to after told ended.session [] is.through.recorded _
      (record { front = front; is = is.is; written = part_more old new front (waiting ended.session) part }, is.through.recorded.said.begun))

  pub front_begun : (old now : Option (List ℕ)) → Appends old now front → IsCaptureBegun rules beginning before after old now told_before told ended
  front_begun old now begun = record {
    written = [];
    through = is.through;
    front = front;
    is = is.is;
    begun = subst (Appends old now) (sym (append-nil front)) begun;
  }

-- memory ran out before anything was written
pub nothing_written : (rules : Rules) (router : Option ℕ) (beginning : Preamble) (before after told_before told old : Option (List ℕ)) (ended : Ended) → GoesThrough rules router before told_before after told ended []
    → IsRecordedUpTo rules beginning before old old told_before told
nothing_written rules router beginning before after told_before told old ended through =
    (after, of_taken rules router before told_before through.to after told ended.session [] through.recorded _ (inl (appends_none old), through.recorded.said.begun))

-- nor a packet was read
pub none_recorded : (rules : Rules) (beginning : Preamble) (before told old : Option (List ℕ)) → IsRecordedUpTo rules beginning before old old told told
none_recorded rules beginning before told old = (before, of_none rules before _ (inl (appends_none old), up_to_all told told [] (appends_none told)))

pub lacking_said : (rules : Rules) (router : ℕ) (before after told_before told now old : Option (List ℕ)) (ended : Ended) (fault : ConfigFault) (is : IsLacking rules router before after told_before told ended fault)
    (is_silent : Bool) (text : List ℕ) → HasSaid told_before now is_silent (notes_of is.through.recorded.steps ++ text)
    → text ≡ counts_line ended.session.gathered.counts (length ended.session.gathered.areas)
    → (answer : Result (Unit {0}) CapturingFault) (found : CapturingFault) → answer ≡ unless_silent is_silent (Err found) → found ≡ fault_lacking ended.ending fault → RuledOutcome rules (Router router) before after old old told_before now answer
lacking_said rules router before after told_before told now old ended fault is is_silent text said same answer found answers found_is =
    let steps = is.through.recorded.steps in
    let notes = subst (λ (l : List ℕ). HasSaid told_before now is_silent (notes_of steps ++ l)) (same ∙ counts_are rules (Some router) steps ended.session.gathered is.through.recorded.gathered) said in
    subst (RuledOutcome rules (Router router) before after old old told_before now) (sym (answers ∙ ap (λ f. unless_silent is_silent (Err f)) found_is))
    (outcome_lacking rules (Router router) before after old old told_before now ended.ending fault is_silent
    (of_taken rules (Some router) before told_before is.through.to after told ended.session [] is.through.recorded _
    (is.through.ending, is.has, appends_none old, notes)))

-- ---- what is known of the router

module _ (rules : Rules) (router : ℕ) (before after told_before told : Option (List ℕ)) (ended : Ended) (through : GoesThrough rules (Some router) before told_before after told ended []) where
  its_areas : ended.session.gathered.areas ≡ areas_of through.recorded.steps
  its_areas = through.recorded.gathered.areas

  pub is_known : ended.session.gathered.config ≡ Some (facts_of (captured_of router through.recorded.steps))
  is_known = through.recorded.gathered.config

  pub is_behind : (front : List ℕ) → IsText front (captured_recording (captured_of router through.recorded.steps) ended.session.gathered.areas) → IsBehind rules (Router router) before after told_before told ended front
  is_behind front text = record {
    through = through;
    is = subst (λ (areas : List ℕ). IsText front (captured_recording (captured_of router through.recorded.steps) areas)) its_areas text;
  }

  pub is_lacking : (fault : ConfigFault) → config_fault_of (config_by (captured_of router through.recorded.steps) ended.session.gathered.areas) ≡ Some fault → IsLacking rules router before after told_before told ended fault
  is_lacking fault has = record {
    through = through;
    has = subst (λ (areas : List ℕ). config_fault_of (config_by (captured_of router through.recorded.steps) areas) ≡ Some fault) its_areas has;
  }

-- ---- a front that is given

module _ (rules : Rules) (beginning : Preamble) (front : List ℕ) (is : (steps : List PacketStep) → IsFront beginning steps front) where
  -- the front could not be written
  pub given_unwritten : (before old new told : Option (List ℕ)) (fault : CapturingFault) → (fault ≡ Write) ⊎ (fault ≡ Closed) → AppendsPart old new front → FaultOutcome rules beginning before before old new told told fault
  given_unwritten before old new told fault kind part =
      outcome_part rules beginning before before old new told told fault kind
      (of_none rules before _ (record { front = front; is = is []; written = part_more old new front [] part }, up_to_all told told [] (appends_none told)))

  pub given_begun : (before after old mid now told_before told : Option (List ℕ)) (ended : Ended) (written : List ℕ) → Appends old mid front → Appends mid now written
      → GoesThrough rules (router_of beginning) before told_before after told ended written → IsCaptureBegun rules beginning before after old now told_before told ended
  given_begun before after old mid now told_before told ended written first more through = record {
    written = written;
    through = through;
    front = front;
    is = is through.recorded.steps;
    begun = appends_more old mid now front written first more;
  }
