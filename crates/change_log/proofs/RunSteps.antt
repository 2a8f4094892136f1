-- Runs of lines with their reports, and one line more.
use Rattle.std.proofs.Common.{◌≡◌, ℕ, suc, ◌≤◌, ◌+◌, Bool, true, false, List, [], ◌∷◌, ◌++◌, length, map, take, Option, refl, sym, ap, subst, ◌∙◌, append_assoc, append-nil, arith, inl, inr}
use Rattle.std.proofs.lemmas.List.{length-append, length-map, map-append, take-append-le, take_all}
use Rattle.change_log.specs.declared.printing.ChangeFilter.{ChangeFilter}
use Rattle.std.specs.Prelude.{Result, Ok, Err, IfOk}
use Rattle.std.specs.List.{flat_map}
use Rattle.event_state.specs.declared.event.Event.{Event}
use Rattle.event_state.specs.declared.refusal.Refusal.{Refusal}
use Rattle.event_core.specs.declared.reply.Reply.{Reply}
use Rattle.event_core.specs.declared.reply.Status.{Status}
use Rattle.event_core.specs.declared.reply.Status.TheVariants.{Current}
use Rattle.event_core.specs.Cores.{CoreValue, Applies, IsCore, IsCurrent, IsTaken, NamesChanges, MatchesStatus}
use Rattle.recording.specs.declared.line.Line.{Line}
use Rattle.recording.specs.declared.line.Line.TheVariants as line
use Rattle.replay.specs.Pages.{AddsLines, AddsPart}
use Rattle.replay.specs.Stops.{AreWholeLines}
use Rattle.replay.specs.declared.buffer.PrintError.{PrintError}
use Rattle.replay.specs.declared.buffer.PrintError.TheVariants as stop
use Rattle.replay.proofs.Paging.{adds_none, adds_more, page_whole, part_now, part_more}
use Rattle.route_table.specs.declared.table.Match.{Match}
use Rattle.route_table.specs.Tables.{IsMatch}
use Rattle.replay.specs.Lines.{lookup_line}
use Rattle.route_table.specs.Tables.{TableValue}
use Rattle.change_log.proofs.Texts.{change_whole, found_line}
use Rattle.replay.specs.Runs.{RollsBy}
use Rattle.change_log.specs.Lines.{Change, Found, Refused, change_line, lines_of}
use Rattle.change_log.specs.Changes.{Give, all_of, area_changes, network_change}
use Rattle.change_log.specs.Runs.{IsFoundIn, IsToldOf, MayPass, Comes, KeepsShort, Says, StopsAtLine, StopsAtTaken, Taken, TellsLine, TellsLines, TellsTaken, LinesTaken, ToldLine, ToldPart, ToldTaken, answered, told_of_roll}
use Rattle.change_log.proofs.Cores.{current_taken, distinct_lists, give_taken, sound_lists}
use Rattle.change_log.proofs.Giving.{give_all}
use Rattle.change_log.proofs.Shown.{line_cut, line_shown}

module _ (wanted : ChangeFilter) (answers : Bool) where
  pub one_line : (old new : CoreValue) (number : ℕ) (t : Taken) (before told : List Change) → TellsTaken answers old t new told → Give (before ++ told) new
      → TellsLines wanted answers old number (t ∷ []) before (lines_of number wanted told) (before ++ told) new
  one_line old new number t before told tells gives = (new, told, [], tells, gives, sym (append-nil (lines_of number wanted told)), (refl, refl, refl))

  -- one run after the other
  pub tells_more : (old mid new : CoreValue) (number : ℕ) (xs ys : List Taken) (before between after : List Change) (t u : List ℕ) → TellsLines wanted answers old number xs before t between mid
      → TellsLines wanted answers mid (number + length xs) ys between u after new → TellsLines wanted answers old number (xs ++ ys) before (t ++ u) after new
  tells_more old mid new number [] ys before between after t u (none, same, is) q =
      let count : number + 0 ≡ number = omega arith in
      let first : TellsLines wanted answers mid number ys between u after new = subst (λ n. TellsLines wanted answers mid n ys between u after new) count q in
      let second : TellsLines wanted answers mid number ys before u after new = subst (λ (changes : List Change). TellsLines wanted answers mid number ys changes u after new) same first in
      let third : TellsLines wanted answers old number ys before u after new = subst (λ (c : CoreValue). TellsLines wanted answers c number ys before u after new) is second in
      subst (λ (w : List ℕ). TellsLines wanted answers old number ys before (w ++ u) after new) (sym none) third
  tells_more old mid new number (x ∷ xs) ys before between after t u (next, told, rest, tells, gives, text, tail) q =
      let count : number + suc (length xs) ≡ (number + 1) + length xs = omega arith in
      let more = tells_more next mid new (number + 1) xs ys (before ++ told) between after rest u tail (subst (λ n. TellsLines wanted answers mid n ys between u after new) count q) in
      (next, told, rest ++ u, tells, gives, ap (λ w. w ++ u) text ∙ append_assoc (lines_of number wanted told) rest u, more)

  -- after the lines the changes give the table and the due summaries of the core
  pub gives_after : (old new : CoreValue) (number : ℕ) (taken : List Taken) (before after : List Change) (text : List ℕ) → Give before old → TellsLines wanted answers old number taken before text after new → Give after new
  gives_after old new number [] before after text given (none, same, is) =
      subst (λ (changes : List Change). Give changes new) (sym same) (subst (λ (c : CoreValue). Give before c) (sym is) given)
  gives_after old new number (t ∷ taken) before after text given (mid, told, rest, tells, gives, is, tail) = gives_after mid new (number + 1) taken (before ++ told) after rest gives tail

pub given_first : (c : CoreValue) → IsCore c → Give (all_of c) c
given_first c core = give_all c (distinct_lists c core) (sound_lists c core)

-- some of the lines were run and reported, and these are left
pub record ChangeOptions (wanted : ChangeFilter) (answers : Bool) (old : CoreValue) (first : ℕ) (lines rest : List Line) (number : ℕ) (now : CoreValue) (from to : Option (List ℕ)) (buffer put : List ℕ) : Type 0 where
  pub done : List Line
  pub left : lines ≡ done ++ rest
  pub counted : number ≡ first + length done
  pub text : List ℕ
  pub after : List Change
  pub run : TellsLines wanted answers old first (map Says done) (all_of old) text after now
  pub printed : AddsLines from to buffer put text
  pub gives : Give after now
  pub core : IsCore now
  pub current : IsCurrent now

-- a line of a recording is run by the core as it is
taken_line : (answers : Bool) (old new : CoreValue) (l : Line) (told : List Change) → IsCore old → TellsLine answers old l new told → TellsTaken answers old (Says l) new told
taken_line answers old new l told core tells = (core, tells)

module _ (wanted : ChangeFilter) (answers : Bool) (old : CoreValue) (first : ℕ) (lines : List Line) (from : Option (List ℕ)) (buffer : List ℕ) where
  pub telling_none : (number : ℕ) (rest : List Line) → IsCore old → IsCurrent old → number ≡ first → lines ≡ rest → ChangeOptions wanted answers old first lines rest number old from from buffer buffer
  telling_none number rest core current counted is = record {
    done = [];
    left = is;
    counted = omega (arith, counted);
    text = [];
    after = all_of old;
    run = (refl, refl, refl);
    printed = adds_none from buffer;
    gives = given_first old core;
    core = core;
    current = current;
  }

  -- a line more of a run
  record Longer (more done : List Line) (text : List ℕ) (new : CoreValue) : Type 0 where
    left : lines ≡ done ++ more
    after : List Change
    run : TellsLines wanted answers old first (map Says done) (all_of old) text after new
    gives : Give after new

  longer : (mid new : CoreValue) (number : ℕ) (rest more : List Line) (l : Line) (told : List Change) (to : Option (List ℕ)) (put : List ℕ)
      → (h : ChangeOptions wanted answers old first lines rest number mid from to buffer put) → rest ≡ l ∷ more → TellsLine answers mid l new told
      → Longer more (h.done ++ l ∷ []) (h.text ++ lines_of number wanted told) new
  longer mid new number rest more l told to put h next tells =
      let taken = taken_line answers mid new l told h.core tells in
      let gives : Give (h.after ++ told) new = give_taken answers h.after told mid new (Says l) h.gives taken in
      let line = one_line wanted answers mid new number (Says l) h.after told taken gives in
      let count : length (map Says h.done) ≡ length h.done = length-map h.done Says in
      record {
        left = h.left ∙ ap (λ w. h.done ++ w) next ∙ sym (append_assoc h.done (l ∷ []) more);
        after = h.after ++ told;
        run = subst (λ (ts : List Taken). TellsLines wanted answers old first ts (all_of old) (h.text ++ lines_of number wanted told) (h.after ++ told) new) (sym (map-append Says h.done (l ∷ [])))
            (tells_more wanted answers old mid new first (map Says h.done) (Says l ∷ []) (all_of old) h.after (h.after ++ told) h.text (lines_of number wanted told) h.run
            (subst (λ n. TellsLines wanted answers mid n (Says l ∷ []) h.after (lines_of number wanted told) (h.after ++ told) new) (h.counted ∙ ap (λ n. first + n) (sym count)) line));
        gives = gives;
      }

  pub telling_more : (mid new : CoreValue) (number : ℕ) (rest more : List Line) (l : Line) (to on : Option (List ℕ)) (put moved : List ℕ)
      → ChangeOptions wanted answers old first lines rest number mid from to buffer put → rest ≡ l ∷ more → ToldLine wanted answers mid number l new to on put moved → IsCore new
      → ChangeOptions wanted answers old first lines more (number + 1) new from on buffer moved
  telling_more mid new number rest more l to on put moved h next line core =
      let all = longer mid new number rest more l line.told to put h next line.tells in
      record {
        done = h.done ++ l ∷ [];
        left = all.left;
        counted = omega (arith, h.counted, length-append h.done (l ∷ []));
        text = h.text ++ lines_of number wanted line.told;
        after = all.after;
        run = all.run;
        printed = adds_more from to on buffer put moved h.text (lines_of number wanted line.told) h.printed line.printed;
        gives = all.gives;
        core = core;
        current = current_taken answers line.told mid new (Says l) h.current (taken_line answers mid new l line.told h.core line.tells);
      }

  -- the number of a line that is left is not the last of all numbers
  pub telling_fits : (now : CoreValue) (number : ℕ) (rest more : List Line) (l : Line) (to : Option (List ℕ)) (put : List ℕ) → ChangeOptions wanted answers old first lines rest number now from to buffer put
      → rest ≡ l ∷ more → number + 1 ≤ first + length lines
  telling_fits now number rest more l to put h next =
      let whole : length lines ≡ length h.done + suc (length more) = ap length (h.left ∙ ap (λ w. h.done ++ w) next) ∙ length-append h.done (l ∷ more) in
      omega (arith, whole, h.counted)

  pub telling_all : (now : CoreValue) (number : ℕ) (rest : List Line) (to : Option (List ℕ)) (put : List ℕ) → ChangeOptions wanted answers old first lines rest number now from to buffer put
      → rest ≡ [] → LinesTaken wanted answers old first (map Says lines) (all_of old) now from to buffer put
  telling_all now number rest to put h none = record {
    text = h.text;
    after = h.after;
    run = subst (λ (done : List Line). TellsLines wanted answers old first (map Says done) (all_of old) h.text h.after now) (sym (h.left ∙ ap (λ w. h.done ++ w) none ∙ append-nil h.done)) h.run;
    printed = h.printed;
  }

  -- a run of the first of the lines
  told_part : (why : PrintError) (now : CoreValue) (done rest : List Line) (to : Option (List ℕ)) (text : List ℕ) (after : List Change) → lines ≡ done ++ rest
      → TellsLines wanted answers old first (map Says done) (all_of old) text after now → AddsPart why from to (buffer ++ text) → (count : ℕ) × ToldPart why wanted answers old first (map Says (take count lines)) (all_of old) from to buffer
  told_part why now done rest to text after left run part = (
    length done,
    record {
      text = text;
      after = after;
      now = now;
      run = subst (λ (front : List Line). TellsLines wanted answers old first (map Says front) (all_of old) text after now)
          (sym (ap (take (length done)) left ∙ take-append-le (length done) done rest (omega arith) ∙ take_all (length done) done (omega arith))) run;
      part = part;
    },
  )

  pub telling_page : (now : CoreValue) (number : ℕ) (rest : List Line) (to : Option (List ℕ)) (put : List ℕ) → ChangeOptions wanted answers old first lines rest number now from to buffer put → AreWholeLines buffer → AreWholeLines put
  telling_page now number rest to put h whole = page_whole from to buffer put h.text h.printed whole

  -- the run stops at a line
  pub telling_stopped : (why : PrintError) (mid new : CoreValue) (number : ℕ) (rest more : List Line) (l : Line) (to on : Option (List ℕ)) (put : List ℕ) → AreWholeLines buffer
      → ChangeOptions wanted answers old first lines rest number mid from to buffer put → rest ≡ l ∷ more → StopsAtLine why wanted answers mid number l new to on put
      → (count : ℕ) × ToldPart why wanted answers old first (map Says (take count lines)) (all_of old) from on buffer
  telling_stopped why mid new number rest more l to on put whole h next (inl (told, tells, part)) =
      let all = longer mid new number rest more l told to put h next tells in
      told_part why new (h.done ++ l ∷ []) more on (h.text ++ lines_of number wanted told) all.after all.left all.run
      (part_more why from to on buffer put h.text (lines_of number wanted told) whole h.printed part)
  telling_stopped why mid new number rest more l to on put whole h next (inr (is, same)) =
      let (count, part) = told_part stop.Memory mid h.done rest to h.text h.after h.left h.run (part_now from to buffer put h.text whole h.printed) in (
        count,
        subst (λ (w : PrintError). ToldPart w wanted answers old first (map Says (take count lines)) (all_of old) from on buffer) (sym is)
            (subst (λ (o : Option (List ℕ)). ToldPart stop.Memory wanted answers old first (map Says (take count lines)) (all_of old) from o buffer) (sym same) part),
      )

-- ---- one line

-- the differences between a current core and the next, as the core names them
differs : (answers : Bool) (old new : CoreValue) (e : Event) (answer : Result Reply Refusal) (reply : Reply) → answer ≡ Ok reply → reply.state ≡ Current → IsCurrent old → Applies old e answer new → IfOk answer (λ r. NamesChanges old r.state new)
    → IsToldOf answers old answer new (map (network_change new.table.items) new.changes ++ flat_map area_changes new.due_changes)
differs answers old new e answer reply is current was applies named =
    let told : List Change = map (network_change new.table.items) new.changes ++ flat_map area_changes new.due_changes in
    let taken : IsTaken old e reply new = subst (λ (a : Result Reply Refusal). Applies old e a new) is applies in
    let stands : MatchesStatus old Current new = subst (λ (s : Status). MatchesStatus old s new) current taken.stands in
    let names : NamesChanges old Current new = subst (λ (s : Status). NamesChanges old s new) current (subst (λ (a : Result Reply Refusal). IfOk a (λ r. NamesChanges old r.state new)) is named) in
    let all = names.0 was in
    subst (λ (a : Result Reply Refusal). IsToldOf answers old a new told) (sym is)
    (stands.0, record { networks = new.changes; due = new.due_changes; items = all.networks; summaries = all.due; is = refl })

abbrev all_changes : CoreValue → List Change
all_changes new = map (network_change new.table.items) new.changes ++ flat_map area_changes new.due_changes

module _ (wanted : ChangeFilter) (answers : Bool) (old : CoreValue) (number : ℕ) (from : Option (List ℕ)) (buffer : List ℕ) where
  module _ (e : Event) (new : CoreValue) (answer : Result Reply Refusal) (applies : Applies old e answer new) where
    -- a refused event
    module _ (refusal : Refusal) (is : answer ≡ Err refusal) (may : MayPass answers refusal) where
      refused_tells : TellsLine answers old (line.Event e) new (answered answers (Refused refusal))
      refused_tells = (answer, applies, subst (λ (a : Result Reply Refusal). IsToldOf answers old a new (answered answers (Refused refusal))) (sym is) (may, refl))

      pub refused_told : (to : Option (List ℕ)) (put : List ℕ) → AddsLines from to buffer put (lines_of number wanted (answered answers (Refused refusal))) → ToldLine wanted answers old number (line.Event e) new from to buffer put
      refused_told to put printed = record { told = answered answers (Refused refusal); tells = refused_tells; printed = printed }

      pub refused_cut : (why : PrintError) (to : Option (List ℕ)) → AddsPart why from to (buffer ++ lines_of number wanted (answered answers (Refused refusal))) → StopsAtLine why wanted answers old number (line.Event e) new from to buffer
      refused_cut why to part = inl (answered answers (Refused refusal), refused_tells, part)

    -- one that was taken
    module _ (reply : Reply) (is : answer ≡ Ok reply) (current : reply.state ≡ Current) (was : IsCurrent old) (named : IfOk answer (λ r. NamesChanges old r.state new)) where
      changed_tells : TellsLine answers old (line.Event e) new (all_changes new)
      changed_tells = (answer, applies, differs answers old new e answer reply is current was applies named)

      pub changed_told : (to : Option (List ℕ)) (put : List ℕ) → AddsLines from to buffer put (lines_of number wanted (all_changes new)) → ToldLine wanted answers old number (line.Event e) new from to buffer put
      changed_told to put printed = record { told = all_changes new; tells = changed_tells; printed = printed }

      pub changed_cut : (why : PrintError) (to : Option (List ℕ)) → AddsPart why from to (buffer ++ lines_of number wanted (all_changes new)) → StopsAtLine why wanted answers old number (line.Event e) new from to buffer
      changed_cut why to part = inl (all_changes new, changed_tells, part)

  -- a lookup
  pub lookup_silent : (address : ℕ) → answers ≡ false → ToldLine wanted answers old number (line.Lookup address) old from from buffer buffer
  lookup_silent address silent = record { told = []; tells = (subst (λ b. IsFoundIn b old address []) (sym silent) refl, refl); printed = adds_none from buffer }

  module _ (address : ℕ) (found : Match) (asked : answers ≡ true) (is : IsMatch old.table.items address found) where
    abbrev told_found : List Change
    told_found = Found address old.table.serial found ∷ []

    found_tells : TellsLine answers old (line.Lookup address) old told_found
    found_tells = (subst (λ b. IsFoundIn b old address told_found) (sym asked) (found, is, refl), refl)

    pub lookup_told : (to : Option (List ℕ)) (put moved : List ℕ) → put ≡ buffer ++ change_line wanted.format number (Found address old.table.serial found) → AddsLines from to put moved [] → ToldLine wanted answers old number (line.Lookup address) old from to buffer moved
    lookup_told to put moved is spilled = record {
      told = told_found;
      tells = found_tells;
      printed = line_shown buffer (change_line wanted.format number (Found address old.table.serial found)) from to put moved (change_whole wanted.format number (Found address old.table.serial found)) is spilled;
    }

    pub lookup_cut : (why : PrintError) (to : Option (List ℕ)) (put : List ℕ) → put ≡ buffer ++ change_line wanted.format number (Found address old.table.serial found) → AddsPart why from to put → StopsAtLine why wanted answers old number (line.Lookup address) old from to buffer
    lookup_cut why to put is part = inl (told_found, found_tells, line_cut buffer (change_line wanted.format number (Found address old.table.serial found)) why from to put is part)

  -- the match of an address in a table, which is the table of the core
  module _ (address : ℕ) (table : TableValue) (same : table ≡ old.table) (put : List ℕ) (asked : answers ≡ true)
      (h : (found : Match) × IsMatch table.items address found × (put ≡ buffer ++ lookup_line wanted.format number address table.serial found)) where
    put_here : (found : Match) × IsMatch old.table.items address found × (put ≡ buffer ++ lookup_line wanted.format number address old.table.serial found)
    put_here = subst (λ (t : TableValue). (found : Match) × IsMatch t.items address found × (put ≡ buffer ++ lookup_line wanted.format number address t.serial found)) same h

    put_found : (found : Match) × IsMatch old.table.items address found × (put ≡ buffer ++ change_line wanted.format number (Found address old.table.serial found))
    put_found = let (found, is, text) = put_here in (found, is, text ∙ ap (λ l. buffer ++ l) (found_line wanted.format number address old.table.serial found))

    pub found_told : (to : Option (List ℕ)) (moved : List ℕ) → AddsLines from to put moved [] → ToldLine wanted answers old number (line.Lookup address) old from to buffer moved
    found_told to moved spilled = let (found, is, text) = put_found in lookup_told address found asked is to put moved text spilled

    pub found_cut : (why : PrintError) (to : Option (List ℕ)) → AddsPart why from to put → StopsAtLine why wanted answers old number (line.Lookup address) old from to buffer
    found_cut why to part = let (found, is, text) = put_found in lookup_cut address found asked is why to put text part

  -- a roll
  module _ (new : CoreValue) (answer : Result ℕ Refusal) (rolls : RollsBy old answer new) where
    pub roll_silent : (serial : ℕ) → answer ≡ Ok serial → ToldLine wanted answers old number line.Roll new from from buffer buffer
    roll_silent serial is = record { told = []; tells = (answer, rolls, sym (ap (told_of_roll answers) is)); printed = adds_none from buffer }

    module _ (refusal : Refusal) (is : answer ≡ Err refusal) where
      roll_tells : TellsLine answers old line.Roll new (answered answers (Refused refusal))
      roll_tells = (answer, rolls, sym (ap (told_of_roll answers) is))

      pub roll_told : (to : Option (List ℕ)) (put : List ℕ) → AddsLines from to buffer put (lines_of number wanted (answered answers (Refused refusal))) → ToldLine wanted answers old number line.Roll new from to buffer put
      roll_told to put printed = record { told = answered answers (Refused refusal); tells = roll_tells; printed = printed }

      pub roll_cut : (why : PrintError) (to : Option (List ℕ)) → AddsPart why from to (buffer ++ lines_of number wanted (answered answers (Refused refusal))) → StopsAtLine why wanted answers old number line.Roll new from to buffer
      roll_cut why to part = inl (answered answers (Refused refusal), roll_tells, part)

  -- under other names
  pub told_as : (l same : Line) (new other : CoreValue) (to on : Option (List ℕ)) (put moved : List ℕ) → l ≡ same → new ≡ other → to ≡ on → put ≡ moved → ToldLine wanted answers old number same other from on buffer moved
      → ToldLine wanted answers old number l new from to buffer put
  told_as l same new other to on put moved is core written shown h =
      subst (λ (x : Line). ToldLine wanted answers old number x new from to buffer put) (sym is)
      (subst (λ (c : CoreValue). ToldLine wanted answers old number same c from to buffer put) (sym core)
      (subst (λ (o : Option (List ℕ)). ToldLine wanted answers old number same other from o buffer put) (sym written) (subst (λ (w : List ℕ). ToldLine wanted answers old number same other from on buffer w) (sym shown) h)))

  pub stopped_as : (why : PrintError) (l same : Line) (new : CoreValue) (to : Option (List ℕ)) → l ≡ same → StopsAtLine why wanted answers old number same new from to buffer → StopsAtLine why wanted answers old number l new from to buffer
  stopped_as why l same new to is h = subst (λ (x : Line). StopsAtLine why wanted answers old number x new from to buffer) (sym is) h

-- the filter stays

pub asked_line : (now wanted : ChangeFilter) (answer answers : Bool) (old : CoreValue) (number : ℕ) (l : Line) (new : CoreValue) (from to : Option (List ℕ)) (buffer put : List ℕ) → now ≡ wanted → answer ≡ answers
    → ToldLine now answer old number l new from to buffer put → ToldLine wanted answers old number l new from to buffer put
asked_line now wanted answer answers old number l new from to buffer put is asks h =
    subst (λ b. ToldLine wanted b old number l new from to buffer put) asks (subst (λ (o : ChangeFilter). ToldLine o answer old number l new from to buffer put) is h)

pub asked_stop : (why : PrintError) (now wanted : ChangeFilter) (answer answers : Bool) (old : CoreValue) (number : ℕ) (l : Line) (new : CoreValue) (from to : Option (List ℕ)) (buffer : List ℕ) → now ≡ wanted → answer ≡ answers
    → StopsAtLine why now answer old number l new from to buffer → StopsAtLine why wanted answers old number l new from to buffer
asked_stop why now wanted answer answers old number l new from to buffer is asks h =
    subst (λ b. StopsAtLine why wanted b old number l new from to buffer) asks (subst (λ (o : ChangeFilter). StopsAtLine why o answer old number l new from to buffer) is h)

-- the journal may be rolled before the line

pub taken_told : (wanted : ChangeFilter) (answers : Bool) (old ready new : CoreValue) (number : ℕ) (l : Line) (from to : Option (List ℕ)) (buffer put : List ℕ) → IsCore ready → KeepsShort old ready → ToldLine wanted answers ready number l new from to buffer put
    → ToldTaken wanted answers old number (Comes l) new from to buffer put
taken_told wanted answers old ready new number l from to buffer put core short h = record { told = h.told; tells = (ready, core, short, h.tells); printed = h.printed }

pub taken_stops : (why : PrintError) (wanted : ChangeFilter) (answers : Bool) (old ready new : CoreValue) (number : ℕ) (l : Line) (from to : Option (List ℕ)) (buffer : List ℕ) → IsCore ready → KeepsShort old ready → StopsAtLine why wanted answers ready number l new from to buffer
    → StopsAtTaken why wanted answers old number (Comes l) new from to buffer
taken_stops why wanted answers old ready new number l from to buffer core short (inl (told, tells, part)) = inl (told, (ready, core, short, tells), part)
taken_stops why wanted answers old ready new number l from to buffer core short (inr before) = inr before

-- it was refused, and this was put on the buffer
pub refusal_told : (wanted : ChangeFilter) (answers : Bool) (number : ℕ) (from to : Option (List ℕ)) (buffer put moved : List ℕ) (refusal : Refusal) → answers ≡ true → put ≡ buffer ++ change_line wanted.format number (Refused refusal) → AddsLines from to put moved []
    → AddsLines from to buffer moved (lines_of number wanted (answered answers (Refused refusal)))
refusal_told wanted answers number from to buffer put moved refusal asked is spilled =
    subst (λ b. AddsLines from to buffer moved (lines_of number wanted (answered b (Refused refusal)))) (sym asked) (line_shown buffer (change_line wanted.format number (Refused refusal)) from to put moved (change_whole wanted.format number (Refused refusal)) is spilled)
