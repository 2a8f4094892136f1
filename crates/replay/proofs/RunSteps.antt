-- Runs of lines, and one line more.
use Rattle.std.proofs.Common.{◌≡◌, ◌≢◌, ℕ, suc, ◌≤◌, ◌+◌, List, [], ◌∷◌, ◌++◌, All, length, take, Option, refl, sym, ap, subst, ◌∙◌, append_assoc, append-nil, arith}
use Rattle.std.specs.Prelude.{Result, Ok, Err, IfOk, IfErr, OnOk, OnErr}
use Rattle.std.proofs.lemmas.List.{length-append, take-append-le, take_all}
use Rattle.std.proofs.lemmas.List.Elements.{All-append, All-cons, All-nil}
use Rattle.output_lines.specs.declared.format.Format.{Format}
use Rattle.event_state.specs.declared.event.Event.{Event}
use Rattle.event_state.specs.declared.refusal.Refusal.{Refusal}
use Rattle.event_state.specs.declared.refusal.Refusal.TheVariants as refusal
use Rattle.event_state.specs.States.{serial_of}
use Rattle.route_table.specs.declared.table.Match.{Match}
use Rattle.route_table.specs.Tables.{TableValue, IsMatch}
use Rattle.event_core.specs.declared.reply.Reply.{Reply}
use Rattle.event_core.specs.Cores.{CoreValue, Applies, IsCurrent, IsRollRefusal, Rolls, state_of}
use Rattle.recording.specs.declared.line.Line.{Line}
use Rattle.recording.specs.declared.line.Line.TheVariants as line
use Rattle.replay.specs.Lines.{lookup_line, answer_line, roll_line}
use Rattle.replay.specs.Runs.{OfEvent, OfRoll, Answers, RollsBy, Prints, text_of_answer}
use Rattle.replay.specs.Pages.{AddsLines, AddsPart, RanLine, Ran, RanPart, HadMemory, IsRunTo, TakesEvent, TakesRoll}
use Rattle.replay.specs.Stops.{AreWholeLines}
use Rattle.replay.specs.declared.buffer.PrintError.{PrintError}
use Rattle.replay.specs.declared.buffer.PrintError.TheVariants as stop
use Rattle.replay.proofs.Wholes.{answer_whole, roll_whole, lookup_whole}
use Rattle.replay.proofs.Paging.{adds_none, adds_put, adds_moved, part_now, part_moved}

-- ---- one line

-- the promises of a roll of a core, as one answer
pub rolls_by : (old new : CoreValue) (r : Result ℕ Refusal) → OnOk r (Rolls old new) → IfOk r (λ serial. serial ≡ serial_of (state_of old)) → OnOk r (IsCurrent old) → IfErr r (IsRollRefusal old) → OnErr r (new ≡ old)
    → RollsBy old r new
rolls_by old new (Ok serial) rolled is current refused unchanged = (current, rolled, is)
rolls_by old new (Err refusal) rolled is current refused unchanged = (refused, unchanged)

event_prints : (format : Format) (old new : CoreValue) (number : ℕ) (e : Event) (answer : Result Reply Refusal) → Applies old e answer new
    → Prints format old number (line.Event e ∷ []) (OfEvent answer ∷ []) (answer_line format number answer) new
event_prints format old new number e answer applies = (new, [], applies, sym (append-nil (answer_line format number answer)), (refl, refl))

roll_prints : (format : Format) (old new : CoreValue) (number : ℕ) (answer : Result ℕ Refusal) → RollsBy old answer new
    → Prints format old number (line.Roll ∷ []) (OfRoll answer ∷ []) (roll_line format number answer) new
roll_prints format old new number answer rolls = (new, [], rolls, sym (append-nil (roll_line format number answer)), (refl, refl))

lookup_prints : (format : Format) (old : CoreValue) (number address : ℕ) (found : Match) → IsMatch old.table.items address found
    → Prints format old number (line.Lookup address ∷ []) [] (lookup_line format number address old.table.serial found) old
lookup_prints format old number address found matched = (found, [], matched, sym (append-nil (lookup_line format number address old.table.serial found)), (refl, refl))

pub event_ran : (format : Format) (old new : CoreValue) (number : ℕ) (l : Line) (e : Event) (answer : Result Reply Refusal) (before after : List ℕ) → l ≡ line.Event e → Applies old e answer new
    → after ≡ before ++ answer_line format number answer → RanLine format old number l new before after
event_ran format old new number l e answer before after is applies printed = record {
  answers = OfEvent answer ∷ [];
  text = answer_line format number answer;
  run = subst (λ (x : Line). Prints format old number (x ∷ []) (OfEvent answer ∷ []) (answer_line format number answer) new) (sym is) (event_prints format old new number e answer applies);
  printed = printed;
  lines = answer_whole format number answer;
}

pub roll_ran : (format : Format) (old new : CoreValue) (number : ℕ) (l : Line) (answer : Result ℕ Refusal) (before after : List ℕ) → l ≡ line.Roll → RollsBy old answer new
    → after ≡ before ++ roll_line format number answer → RanLine format old number l new before after
roll_ran format old new number l answer before after is rolls printed = record {
  answers = OfRoll answer ∷ [];
  text = roll_line format number answer;
  run = subst (λ (x : Line). Prints format old number (x ∷ []) (OfRoll answer ∷ []) (roll_line format number answer) new) (sym is) (roll_prints format old new number answer rolls);
  printed = printed;
  lines = roll_whole format number answer;
}

pub lookup_ran : (format : Format) (old : CoreValue) (table : TableValue) (number : ℕ) (l : Line) (address : ℕ) (before after : List ℕ) → l ≡ line.Lookup address → table ≡ old.table
    → (found : Match) × IsMatch table.items address found × (after ≡ before ++ lookup_line format number address table.serial found) → RanLine format old number l old before after
lookup_ran format old table number l address before after is same (found, matched, printed) = record {
  answers = [];
  text = lookup_line format number address old.table.serial found;
  run = subst (λ (x : Line). Prints format old number (x ∷ []) [] (lookup_line format number address old.table.serial found) old) (sym is)
      (lookup_prints format old number address found (subst (λ (t : TableValue). IsMatch t.items address found) same matched));
  printed = printed ∙ ap (λ (t : TableValue). before ++ lookup_line format number address t.serial found) same;
  lines = lookup_whole format number address old.table.serial found;
}

-- an event that was taken, and one that was refused for another reason than a lack of memory
pub event_done : (old new : CoreValue) (e : Event) (answer : Result Reply Refusal) (reply : Reply) → answer ≡ Ok reply → Applies old e answer new → TakesEvent old e new
event_done old new e answer reply is applies = (answer, applies, subst (λ (a : Result Reply Refusal). HadMemory (OfEvent a)) (sym is) tt)

pub event_refused : (old new : CoreValue) (e : Event) (answer : Result Reply Refusal) (why : Refusal) → answer ≡ Err why → Applies old e answer new → why ≢ refusal.Memory → TakesEvent old e new
event_refused old new e answer why is applies other = (answer, applies, subst (λ (a : Result Reply Refusal). HadMemory (OfEvent a)) (sym is) other)

pub roll_done : (old new : CoreValue) (answer : Result ℕ Refusal) (serial : ℕ) → answer ≡ Ok serial → RollsBy old answer new → TakesRoll old new
roll_done old new answer serial is rolls = (serial, subst (λ (a : Result ℕ Refusal). RollsBy old a new) is rolls)

pub event_taken : (old new : CoreValue) (l : Line) (e : Event) → l ≡ line.Event e → TakesEvent old e new → IsRunTo old (l ∷ []) new
event_taken old new l e is (answer, applies, memory) format number =
    subst (λ (x : Line). (answers : Answers) × (text : List ℕ) × Prints format old number (x ∷ []) answers text new × All HadMemory answers) (sym is)
    (OfEvent answer ∷ [], answer_line format number answer, event_prints format old new number e answer applies, All-cons HadMemory (OfEvent answer) [] memory (All-nil HadMemory))

pub roll_taken : (old new : CoreValue) (l : Line) → l ≡ line.Roll → TakesRoll old new → IsRunTo old (l ∷ []) new
roll_taken old new l is (serial, rolls) format number =
    subst (λ (x : Line). (answers : Answers) × (text : List ℕ) × Prints format old number (x ∷ []) answers text new × All HadMemory answers) (sym is)
    (OfRoll (Ok serial) ∷ [], roll_line format number (Ok serial), roll_prints format old new number (Ok serial) rolls, All-cons HadMemory (OfRoll (Ok serial)) [] tt (All-nil HadMemory))

pub lookup_taken : (old : CoreValue) (table : TableValue) (l : Line) (address : ℕ) (found : Match) → l ≡ line.Lookup address → table ≡ old.table → IsMatch table.items address found
    → IsRunTo old (l ∷ []) old
lookup_taken old table l address found is same matched format number =
    subst (λ (x : Line). (answers : Answers) × (text : List ℕ) × Prints format old number (x ∷ []) answers text old × All HadMemory answers) (sym is)
    ([], lookup_line format number address old.table.serial found, lookup_prints format old number address found (subst (λ (t : TableValue). IsMatch t.items address found) same matched), All-nil HadMemory)

-- ---- one run after the other

pub prints_more : (format : Format) (old mid new : CoreValue) (number : ℕ) (xs ys : List Line) (ps qs : Answers) (t u : List ℕ) → Prints format old number xs ps t mid → Prints format mid (number + length xs) ys qs u new
    → Prints format old number (xs ++ ys) (ps ++ qs) (t ++ u) new
prints_more format old mid new number [] ys [] qs t u (none, same) q =
    let count : number + 0 ≡ number = omega arith in
    let here : Prints format mid number ys qs u new = subst (λ n. Prints format mid n ys qs u new) count q in
    subst (λ (c : CoreValue). Prints format c number ys qs (t ++ u) new) same (subst (λ (w : List ℕ). Prints format mid number ys qs (w ++ u) new) (sym none) here)
prints_more format old mid new number [] ys (a ∷ ps) qs t u p q = absurd p
prints_more format old mid new number (line.Lookup address ∷ xs) ys ps qs t u (found, rest, matched, text, tail) q =
    let count : number + suc (length xs) ≡ (number + 1) + length xs = omega arith in
    let more = prints_more format old mid new (number + 1) xs ys ps qs rest u tail (subst (λ n. Prints format mid n ys qs u new) count q) in
    (found, rest ++ u, matched, ap (λ w. w ++ u) text ∙ append_assoc (lookup_line format number address old.table.serial found) rest u, more)
prints_more format old mid new number (line.Event e ∷ xs) ys [] qs t u p q = absurd p
prints_more format old mid new number (line.Event e ∷ xs) ys (a ∷ ps) qs t u (next, rest, answered, text, tail) q =
    let count : number + suc (length xs) ≡ (number + 1) + length xs = omega arith in
    let more = prints_more format next mid new (number + 1) xs ys ps qs rest u tail (subst (λ n. Prints format mid n ys qs u new) count q) in
    (next, rest ++ u, answered, ap (λ w. w ++ u) text ∙ append_assoc (text_of_answer format number a) rest u, more)
prints_more format old mid new number (line.Roll ∷ xs) ys [] qs t u p q = absurd p
prints_more format old mid new number (line.Roll ∷ xs) ys (a ∷ ps) qs t u (next, rest, answered, text, tail) q =
    let count : number + suc (length xs) ≡ (number + 1) + length xs = omega arith in
    let more = prints_more format next mid new (number + 1) xs ys ps qs rest u tail (subst (λ n. Prints format mid n ys qs u new) count q) in
    (next, rest ++ u, answered, ap (λ w. w ++ u) text ∙ append_assoc (text_of_answer format number a) rest u, more)

-- ---- how far a run is

-- some of the lines were run and printed, and these are left
pub record Running (format : Format) (old : CoreValue) (first : ℕ) (lines rest : List Line) (number : ℕ) (now : CoreValue) (from to : Option (List ℕ)) (before buffer : List ℕ) : Type 0 where
  pub done : List Line
  pub left : lines ≡ done ++ rest
  pub counted : number ≡ first + length done
  pub ran : Ran format old first done now from to before buffer

pub running_none : (format : Format) (old : CoreValue) (first number : ℕ) (lines rest : List Line) (from : Option (List ℕ)) (buffer : List ℕ) → number ≡ first → lines ≡ rest → Running format old first lines rest number old from from buffer buffer
running_none format old first number lines rest from buffer counted is = record {
  done = [];
  left = is;
  counted = omega arith;
  ran = record { answers = []; text = []; run = (refl, refl); printed = adds_none from buffer };
}

-- a line more, and then the buffer may be written in part
pub ran_more : (format : Format) (old mid new : CoreValue) (first number : ℕ) (done : List Line) (l : Line) (from to : Option (List ℕ)) (before buffer put : List ℕ) → number ≡ first + length done → Ran format old first done mid from to before buffer
    → RanLine format mid number l new buffer put → Ran format old first (done ++ l ∷ []) new from to before put
ran_more format old mid new first number done l from to before buffer put counted ran more = record {
  answers = ran.answers ++ more.answers;
  text = ran.text ++ more.text;
  run = prints_more format old mid new first done (l ∷ []) ran.answers more.answers ran.text more.text ran.run (subst (λ n. Prints format mid n (l ∷ []) more.answers more.text new) counted more.run);
  printed = adds_put from to before buffer ran.text put more.text ran.printed more.printed more.lines;
}

pub running_more : (format : Format) (old mid new : CoreValue) (first number : ℕ) (lines rest more : List Line) (l : Line) (from to on : Option (List ℕ)) (before buffer put moved : List ℕ) → Running format old first lines rest number mid from to before buffer
    → rest ≡ l ∷ more → RanLine format mid number l new buffer put → AddsLines to on put moved [] → Running format old first lines more (number + 1) new from on before moved
running_more format old mid new first number lines rest more l from to on before buffer put moved h next line spilled =
    let ran = ran_more format old mid new first number h.done l from to before buffer put h.counted h.ran line in
    record {
      done = h.done ++ l ∷ [];
      left = h.left ∙ ap (λ w. h.done ++ w) next ∙ sym (append_assoc h.done (l ∷ []) more);
      counted = omega (arith, h.counted, length-append h.done (l ∷ []));
      ran = record { answers = ran.answers; text = ran.text; run = ran.run; printed = adds_moved from to on before put moved ran.text ran.printed spilled };
    }

-- the number of a line that is left is not the last of all numbers
pub running_fits : (format : Format) (old now : CoreValue) (first number : ℕ) (lines rest more : List Line) (l : Line) (from to : Option (List ℕ)) (before buffer : List ℕ) → Running format old first lines rest number now from to before buffer
    → rest ≡ l ∷ more → number + 1 ≤ first + length lines
running_fits format old now first number lines rest more l from to before buffer h next =
    let whole : length lines ≡ length h.done + suc (length more) = ap length (h.left ∙ ap (λ w. h.done ++ w) next) ∙ length-append h.done (l ∷ more) in
    omega (arith, whole, h.counted)

pub running_all : (format : Format) (old now : CoreValue) (first number : ℕ) (lines rest : List Line) (from to : Option (List ℕ)) (before buffer : List ℕ) → Running format old first lines rest number now from to before buffer
    → rest ≡ [] → Ran format old first lines now from to before buffer
running_all format old now first number lines rest from to before buffer h none =
    subst (λ (done : List Line). Ran format old first done now from to before buffer) (sym (h.left ∙ ap (λ w. h.done ++ w) none ∙ append-nil h.done)) h.ran

-- a run of the first of the lines
ran_part : (why : PrintError) (format : Format) (old now : CoreValue) (first : ℕ) (lines done rest : List Line) (from to : Option (List ℕ)) (before text : List ℕ) (answers : Answers) → lines ≡ done ++ rest → Prints format old first done answers text now
    → AddsPart why from to (before ++ text) → RanPart why format old first lines from to before
ran_part why format old now first lines done rest from to before text answers left run part = record {
  count = length done;
  answers = answers;
  text = text;
  now = now;
  run = subst (λ (front : List Line). Prints format old first front answers text now)
      (sym (ap (take (length done)) left ∙ take-append-le (length done) done rest (omega arith) ∙ take_all (length done) done (omega arith))) run;
  part = part;
}

-- memory ran out
pub running_part : (format : Format) (old now : CoreValue) (first number : ℕ) (lines rest : List Line) (from to : Option (List ℕ)) (before buffer : List ℕ) → AreWholeLines before
    → Running format old first lines rest number now from to before buffer → RanPart stop.Memory format old first lines from to before
running_part format old now first number lines rest from to before buffer whole h =
    ran_part stop.Memory format old now first lines h.done rest from to before h.ran.text h.ran.answers h.left h.ran.run (part_now from to before buffer h.ran.text whole h.ran.printed)

-- the buffer could not be written after a line
pub running_stopped : (why : PrintError) (format : Format) (old mid new : CoreValue) (first number : ℕ) (lines rest more : List Line) (l : Line) (from to on : Option (List ℕ)) (before buffer put : List ℕ)
    → AreWholeLines before → Running format old first lines rest number mid from to before buffer → rest ≡ l ∷ more → RanLine format mid number l new buffer put → AddsPart why to on put
    → RanPart why format old first lines from on before
running_stopped why format old mid new first number lines rest more l from to on before buffer put whole h next line stopped =
    let ran = ran_more format old mid new first number h.done l from to before buffer put h.counted h.ran line in
    ran_part why format old new first lines (h.done ++ l ∷ []) more from on before ran.text ran.answers (h.left ∙ ap (λ w. h.done ++ w) next ∙ sym (append_assoc h.done (l ∷ []) more)) ran.run
    (part_moved why from to on before put ran.text whole ran.printed stopped)

-- ---- a run that prints nothing

-- some of the lines were run, and these are left
pub record Taking (first number : ℕ) (old : CoreValue) (lines rest : List Line) (now : CoreValue) : Type 0 where
  pub done : List Line
  pub left : lines ≡ done ++ rest
  pub counted : number ≡ first + length done
  pub run : IsRunTo old done now

pub taking_none : (first number : ℕ) (old : CoreValue) (lines rest : List Line) → number ≡ first → lines ≡ rest → Taking first number old lines rest old
taking_none first number old lines rest counted is = record { done = []; left = is; counted = omega (arith, counted); run = λ format number. ([], [], (refl, refl), All-nil HadMemory) }

pub taking_more : (first number : ℕ) (old mid new : CoreValue) (lines rest more : List Line) (l : Line) → Taking first number old lines rest mid → rest ≡ l ∷ more → IsRunTo mid (l ∷ []) new → Taking first (number + 1) old lines more new
taking_more first number old mid new lines rest more l h next line = record {
  counted = omega (arith, h.counted, length-append h.done (l ∷ []));
  done = h.done ++ l ∷ [];
  left = h.left ∙ ap (λ w. h.done ++ w) next ∙ sym (append_assoc h.done (l ∷ []) more);
  run = λ format number.
      let (ps, t, run, before) = h.run format number in
      let (qs, u, one, now) = line format (number + length h.done) in
      (ps ++ qs, t ++ u, prints_more format old mid new number h.done (l ∷ []) ps qs t u run one, All-append HadMemory ps qs before now);
}

-- the number of a line that is left is not the last of all numbers
pub taking_fits : (first number : ℕ) (old now : CoreValue) (lines rest more : List Line) (l : Line) → Taking first number old lines rest now → rest ≡ l ∷ more → number + 1 ≤ first + length lines
taking_fits first number old now lines rest more l h next =
    let whole : length lines ≡ length h.done + suc (length more) = ap length (h.left ∙ ap (λ w. h.done ++ w) next) ∙ length-append h.done (l ∷ more) in
    omega (arith, whole, h.counted)

pub taking_all : (first number : ℕ) (old now : CoreValue) (lines rest : List Line) → Taking first number old lines rest now → rest ≡ [] → IsRunTo old lines now
taking_all first number old now lines rest h none = subst (λ (done : List Line). IsRunTo old done now) (sym (h.left ∙ ap (λ w. h.done ++ w) none ∙ append-nil h.done)) h.run

-- memory ran out after the last line
pub ran_whole : (format : Format) (old now : CoreValue) (first : ℕ) (lines : List Line) (from to : Option (List ℕ)) (before buffer : List ℕ) → AreWholeLines before → Ran format old first lines now from to before buffer
    → RanPart stop.Memory format old first lines from to before
ran_whole format old now first lines from to before buffer whole h =
    ran_part stop.Memory format old now first lines lines [] from to before h.text h.answers (sym (append-nil lines)) h.run (part_now from to before buffer h.text whole h.printed)
