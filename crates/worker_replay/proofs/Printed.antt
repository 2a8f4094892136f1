-- The lines of a run are printed one after the other.
use Rattle.std.proofs.Common.{◌≡◌, ℕ, ◌≤◌, ◌+◌, List, [], ◌∷◌, ◌++◌, length, map, Option, refl, sym, ap, subst, ◌∙◌, append_assoc, append-nil, arith}
use Rattle.std.specs.Prelude.{Result}
use Rattle.event_state.specs.declared.refusal.Refusal.{Refusal}
use Rattle.route_table.specs.Tables.{TableValue}
use Rattle.output_lines.specs.declared.format.Format.{Format}
use Rattle.engine.specs.Reply.{Reply}
use Rattle.publication.specs.Names.{Name}
use Rattle.engine.specs.Answers.{AreAnswered}
use Rattle.recording.specs.declared.line.Line.{Line}
use Rattle.recording.specs.declared.line.Line.TheVariants as line
use Rattle.replay.specs.Lines.{lookup_line, answer_line}
use Rattle.worker_replay.specs.declared.asking.Ask.{Ask}
use Rattle.worker_replay.specs.declared.asking.Ask.TheVariants as ask
use Rattle.worker_replay.specs.Runs.{Answers, Prints, events_of, reply_of, rolled_line}
use Rattle.worker_replay.specs.Parts.{HasAllReplies, PrintsAll, AppendsAll, AppendsLine, asks_of}

-- some of the lines are printed, and these are left
pub record PrintOptions (format : Format) (table : TableValue) (serial first : ℕ) (asks : List Ask) (replies : List (Result Reply Refusal)) (roll : Option (Result ℕ Refusal)) (old : List ℕ) (rest : List Ask) (left : List (Result Reply Refusal)) (number : ℕ) (now : List ℕ)
    : Type 0 where
  pub has : HasAllReplies rest left
  pub counted : number + length rest ≡ first + length asks
  pub goes : (more : List ℕ) → PrintsAll format table serial number rest left roll more → AppendsAll format table serial first asks replies roll old (now ++ more)

module _ (format : Format) (table : TableValue) (serial first : ℕ) (asks : List Ask) (replies : List (Result Reply Refusal)) (roll : Option (Result ℕ Refusal)) (old : List ℕ) where
  pub printing_none : (rest : List Ask) → asks ≡ rest → HasAllReplies asks replies → PrintOptions format table serial first asks replies roll old rest replies first old
  printing_none rest is has =
      subst (λ r. PrintOptions format table serial first asks replies roll old r replies first old) is
      (record { has = has; counted = refl; goes = λ more prints. record { text = more; prints = prints; appended = refl } })

  -- a line more
  more_line : (a : Ask) (rest : List Ask) (left less : List (Result Reply Refusal)) (number : ℕ) (now put : List ℕ) → PrintOptions format table serial first asks replies roll old (a ∷ rest) left number now
      → AppendsLine format table serial number a left less roll now put → PrintOptions format table serial first asks replies roll old rest less (number + 1) put
  more_line (ask.Lookup address) rest left less number now put h (found, matched, written, same) =
      let line = lookup_line format number address serial found in record {
        has = subst (HasAllReplies rest) (sym same) h.has;
        counted = omega (arith, h.counted);
        goes = λ more prints. subst (AppendsAll format table serial first asks replies roll old) (sym (append_assoc now line more) ∙ ap (λ w. w ++ more) (sym written))
            (h.goes (line ++ more) (found, more, matched, refl, subst (λ (l : List (Result Reply Refusal)). PrintsAll format table serial (number + 1) rest l roll more) same prints));
      }
  more_line (ask.Roll last) rest left less number now put h (written, same) =
      let line = rolled_line format last number roll in record {
        has = subst (HasAllReplies rest) (sym same) h.has;
        counted = omega (arith, h.counted);
        goes = λ more prints. subst (AppendsAll format table serial first asks replies roll old) (sym (append_assoc now line more) ∙ ap (λ w. w ++ more) (sym written))
            (h.goes (line ++ more) (more, refl, subst (λ (l : List (Result Reply Refusal)). PrintsAll format table serial (number + 1) rest l roll more) same prints));
      }
  more_line ask.Event rest left less number now put h (reply, is, written) =
      let line = answer_line format number reply in record {
        has = subst (HasAllReplies (ask.Event ∷ rest)) is h.has;
        counted = omega (arith, h.counted);
        goes = λ more prints. subst (AppendsAll format table serial first asks replies roll old) (sym (append_assoc now line more) ∙ ap (λ w. w ++ more) (sym written))
            (h.goes (line ++ more) (subst (λ (l : List (Result Reply Refusal)). PrintsAll format table serial number (ask.Event ∷ rest) l roll (line ++ more)) (sym is) (more, refl, prints)));
      }

  pub printing_more : (a : Ask) (rest more : List Ask) (left less : List (Result Reply Refusal)) (number : ℕ) (now put : List ℕ) → PrintOptions format table serial first asks replies roll old rest left number now
      → rest ≡ a ∷ more → AppendsLine format table serial number a left less roll now put → PrintOptions format table serial first asks replies roll old more less (number + 1) put
  printing_more a rest more left less number now put h next appends =
      more_line a more left less number now put (subst (λ (r : List Ask). PrintOptions format table serial first asks replies roll old r left number now) next h) appends

  -- the next line has its reply, and its number is not the last of all numbers
  one_of_all : (a : Ask) (rest : List Ask) (left : List (Result Reply Refusal)) → HasAllReplies (a ∷ rest) left → HasAllReplies (a ∷ []) left
  one_of_all (ask.Lookup address) rest left has = tt
  one_of_all (ask.Roll last) rest left has = tt
  one_of_all ask.Event rest [] has = has
  one_of_all ask.Event rest (reply ∷ left) has = tt

  pub printing_has : (a : Ask) (rest more : List Ask) (left : List (Result Reply Refusal)) (number : ℕ) (now : List ℕ) → PrintOptions format table serial first asks replies roll old rest left number now
      → rest ≡ a ∷ more → HasAllReplies (a ∷ []) left
  printing_has a rest more left number now h next = one_of_all a more left (subst (λ (r : List Ask). HasAllReplies r left) next h.has)

  pub printing_fits : (a : Ask) (rest more : List Ask) (left : List (Result Reply Refusal)) (number : ℕ) (now : List ℕ) → PrintOptions format table serial first asks replies roll old rest left number now
      → rest ≡ a ∷ more → number + 1 ≤ first + length asks
  printing_fits a rest more left number now h next = omega (arith, h.counted, ap length next)

  pub printing_all : (rest : List Ask) (left : List (Result Reply Refusal)) (number : ℕ) (now : List ℕ) → PrintOptions format table serial first asks replies roll old rest left number now → rest ≡ []
      → AppendsAll format table serial first asks replies roll old now
  printing_all rest left number now h none =
      subst (AppendsAll format table serial first asks replies roll old) (append-nil now) (h.goes [] (subst (λ (r : List Ask). PrintsAll format table serial number r left roll []) (sym none) refl))

-- ---- the lines and their answers

-- each event has its answer, and so its reply
pub has_replies : (name : Name) (lines : List Line) (answers : Answers) → AreAnswered name (events_of lines) answers → HasAllReplies (asks_of lines) (map reply_of answers)
has_replies name [] answers h = tt
has_replies name (line.Lookup address ∷ lines) answers h = has_replies name lines answers h
has_replies name (line.Roll ∷ lines) answers h = has_replies name lines answers h
has_replies name (line.Event e ∷ lines) [] h = h
has_replies name (line.Event e ∷ lines) (a ∷ answers) h = has_replies name lines answers h.1

pub prints_lines : (format : Format) (name : Name) (table : TableValue) (serial number : ℕ) (lines : List Line) (answers : Answers) (roll : Option (Result ℕ Refusal)) (text : List ℕ) → AreAnswered name (events_of lines) answers
    → PrintsAll format table serial number (asks_of lines) (map reply_of answers) roll text → Prints format table serial number lines answers roll text
prints_lines format name table serial number [] [] roll text h prints = prints
prints_lines format name table serial number [] (a ∷ answers) roll text h prints = h
prints_lines format name table serial number (line.Lookup address ∷ lines) answers roll text h (found, rest, matched, is, prints) =
    (found, rest, matched, is, prints_lines format name table serial (number + 1) lines answers roll rest h prints)
prints_lines format name table serial number (line.Roll ∷ lines) answers roll text h (rest, is, prints) = (rest, is, prints_lines format name table serial (number + 1) lines answers roll rest h prints)
prints_lines format name table serial number (line.Event e ∷ lines) [] roll text h prints = h
prints_lines format name table serial number (line.Event e ∷ lines) (a ∷ answers) roll text h (rest, is, prints) = (rest, is, prints_lines format name table serial (number + 1) lines answers roll rest h.1 prints)
