-- A recording was run.
use Rattle.std.proofs.Common.{◌≡◌, ℕ, suc, Bool, List, [], ◌∷◌, ◌++◌, length, map, All, Option, Some, None, refl, sym, ap, subst, ◌∙◌}
use Rattle.std.specs.Prelude.{Result, MatchResult, IfSome, is_some}
use Rattle.std.specs.List.{AllZip}
use Rattle.event_state.specs.declared.base.Base.{Base}
use Rattle.event_state.specs.declared.event.Event.{Event}
use Rattle.event_state.specs.declared.refusal.Refusal.{Refusal}
use Rattle.event_state.specs.Rolls.{IsRolled}
use Rattle.event_state.specs.Steps.{standard_limits}
use Rattle.engine.specs.Reply.{Reply}
use Rattle.engine.specs.Cores.{CoreValue, IsCore}
use Rattle.engine.specs.Opens.{IsRolledSerial}
use Rattle.publication.specs.Forwarders.{ForwarderValue, SeenValue, IsLookup}
use Rattle.publication.specs.Names.{Name}
use Rattle.publication.specs.Published.{IsTableFor}
use Rattle.engine.specs.Answers.{AreAnswered}
use Rattle.recording.specs.declared.line.Line.{Line}
use Rattle.recording.specs.Recordings.{RecordingValue}
use Rattle.recording.specs.declared.version.Version.{Version}
use Rattle.output_lines.specs.declared.format.Format.{Format}
use Rattle.replay.specs.Lines.{first_number}
use Rattle.worker_replay.specs.declared.asking.Ask.{Ask}
use Rattle.worker_replay.specs.Runs.{Answers, IsAfter, IsNotRolled, IsPrinted, IsRollAnswer, events_of, has_roll, reply_of}
use Rattle.worker_replay.specs.Dealing.{IsDealt, AreAnsweredDealt}
use Rattle.worker_replay.specs.Parts.{HasAllReplies, PrintsAll, AppendsAll, LooksOnce, HasPrinted, HasRun, IsTokenOf, asks_of}
use Rattle.worker_replay.proofs.Tokens.{all_longer, all_own}
use Rattle.worker_replay.proofs.Printed.{has_replies, prints_lines}

-- ---- the answers of lists that were dealt

zip_of : {X Y : Type 0} (name : Name) (events : X → List Event) (answers : Y → Answers) (xs : List X) (ys : List Y) → AllZip (λ x y. AreAnswered name (events x) (answers y)) xs ys
    → AllZip (AreAnswered name) (map events xs) (map answers ys)
zip_of name events answers [] [] all = tt
zip_of name events answers [] (y ∷ ys) all = all
zip_of name events answers (x ∷ xs) [] all = all
zip_of name events answers (x ∷ xs) (y ∷ ys) all = (all.0, zip_of name events answers xs ys all.1)

pub answered_dealt : {X Y : Type 0} (name : Name) (items : X → List Event) (answers : Y → Answers) (events : List Event) (xs : List X) (ys : List Y) → IsDealt events (map items xs)
    → AllZip (λ x y. AreAnswered name (items x) (answers y)) xs ys → AreAnsweredDealt name events (map answers ys)
answered_dealt name items answers events xs ys dealt all = record { lists = map items xs; dealt = dealt; answered = zip_of name items answers xs ys all }

-- ---- one look

pub looked : (format : Format) (f : ForwarderValue) (s : SeenValue) (number : ℕ) (asks : List Ask) (given replies : List (Result Reply Refusal)) (roll : Option (Result ℕ Refusal)) (old new : List ℕ) → IsLookup f 0 s
    → AppendsAll format s.table s.table.serial number asks given roll old new → old ≡ [] → given ≡ replies → LooksOnce format f number asks replies roll new
looked format f s number asks given replies roll old new sights h none same =
    let whole : new ≡ h.text = h.appended ∙ ap (λ w. w ++ h.text) none in
    record {
      seen = s.list;
      table = s.table;
      after = sights.2;
      right = subst (λ (n : Name). IsTableFor n.base s.list s.table) sights.0 sights.3;
      prints = subst (λ (w : List ℕ). PrintsAll format s.table s.table.serial number asks replies roll w) (sym whole) (subst (λ (rs : List (Result Reply Refusal)). PrintsAll format s.table s.table.serial number asks rs roll h.text) same h.prints);
    }

-- ---- the lines

-- the tokens of the answers may be learned
pub own : (name : Name) (f : ForwarderValue) (events : List Event) (answers : Answers) → f.name ≡ name → AreAnswered name events answers → All (IsTokenOf f.name) answers
own name f events answers named answered = subst (λ (n : Name). All (IsTokenOf n) answers) (sym named) (all_own name events answers answered)

pub enough : (name : Name) (lines : List Line) (events : List Event) (asks : List Ask) (answers : Answers) (replies : List (Result Reply Refusal)) → events ≡ events_of lines → asks ≡ asks_of lines
    → AreAnswered name events answers → replies ≡ map reply_of answers → HasAllReplies asks replies
enough name lines events asks answers replies events_are asks_are answered replies_are =
    subst (λ (given : List Ask). HasAllReplies given replies) (sym asks_are) (subst (HasAllReplies (asks_of lines)) (sym replies_are)
    (has_replies name lines answers (subst (λ (es : List Event). AreAnswered name es answers) events_are answered)))

pub as_many_lines : (lines : List Line) (asks : List Ask) → asks ≡ asks_of lines → length asks ≡ length lines
as_many_lines lines asks are = ap length are ∙ each lines
  where
    each : (ls : List Line) → length (asks_of ls) ≡ length ls
    each [] = refl
    each (l ∷ ls) = ap suc (each ls)

-- the answer to the one roll, which is made exactly if a line is a roll
pub roll_answered : (name : Name) (lines : List Line) (asked : Bool) (roll : Option (Result ℕ Refusal)) → asked ≡ has_roll lines → is_some roll ≡ asked
    → IfSome roll (λ answer. MatchResult answer (IsRolledSerial name.base) IsNotRolled) → IsRollAnswer name lines roll
roll_answered name lines asked None is some answered = sym is ∙ sym some
roll_answered name lines asked (Some answer) is some answered = (sym is ∙ sym some, answered)

module _ (format : Format) (name : Name) (lines : List Line) (events : List Event) (asks : List Ask) (answers : Answers) (f g : ForwarderValue) (replies : List (Result Reply Refusal)) (roll : Option (Result ℕ Refusal)) (first : ℕ) (text : List ℕ)
    (events_are : events ≡ events_of lines) (asks_are : asks ≡ asks_of lines) (answered : AreAnswered name events answers) (named : f.name ≡ name) (same : g.name ≡ f.name) (after : All (IsAfter g.known) answers)
    (replies_are : replies ≡ map reply_of answers) (rolled : IsRollAnswer name lines roll) where
  of_lines : AreAnswered name (events_of lines) answers
  of_lines = subst (λ (es : List Event). AreAnswered name es answers) events_are answered

  pub has_printed : LooksOnce format g first asks replies roll text → HasPrinted format name lines first text
  has_printed looks = record {
    answers = answers;
    is = record {
      answered = of_lines;
      seen = looks.seen;
      table = looks.table;
      right = subst (λ (n : Name). IsTableFor n.base looks.seen looks.table) (same ∙ named) looks.right;
      after = all_longer g.known looks.seen answers looks.after after;
      roll = roll;
      rolled = rolled;
      prints = prints_lines format name looks.table looks.table.serial first lines answers roll text of_lines
          (subst (λ (given : List Ask). PrintsAll format looks.table looks.table.serial first given (map reply_of answers) roll text) asks_are
          (subst (λ (rs : List (Result Reply Refusal)). PrintsAll format looks.table looks.table.serial first asks rs roll text) replies_are looks.prints));
    };
  }

-- ---- the recording

pub has_run : (format : Format) (r : RecordingValue) (name : Name) (v : Version) (base : Base) (lines : List Line) (first : ℕ) (text : List ℕ) (closed : CoreValue) → v ≡ r.version → base ≡ r.base → lines ≡ r.lines → name.base ≡ base
    → first ≡ first_number v base → HasPrinted format name lines first text → (events : List Event) × IsRolled name.base standard_limits events closed.base → closed.limits ≡ standard_limits → IsCore closed → HasRun format r text closed
has_run format r name v base lines first text closed version_is base_is lines_are named number h (events, left) limits core = record {
  answers = h.answers;
  is = record {
    name = name;
    named = named ∙ base_is;
    lines = subst (λ (n : ℕ). IsPrinted format name r.lines n h.answers text) (number ∙ (λ i. first_number (version_is i) (base_is i))) (subst (λ (ls : List Line). IsPrinted format name ls first h.answers text) lines_are h.is);
    left = record { events = events; rolled = subst (λ (b : Base). IsRolled b standard_limits events closed.base) (named ∙ base_is) left; limits = limits; core = core };
  };
}
