-- Lines that are taken as they come, and one more.
use Rattle.std.proofs.Common.{◌≡◌, ◌≢◌, ◌+◌, ◌⊎◌, ℕ, Bool, true, false, List, [], ◌∷◌, ◌++◌, length, Option, Some, None, refl, sym, ap, subst, ◌∙◌, append_assoc, append-nil, arith, inl, inr}
use Rattle.std.proofs.KnownBytes.{Consumes-nil, Consumes-trans}
use Rattle.std.proofs.lemmas.List.{length-append}
use Rattle.std.specs.Prelude.{string_bytes}
use Rattle.std.specs.Io.KnownBytes.{Consumes, IsAtEnd, prepend_known}
use Rattle.event_core.specs.Cores.{CoreValue, IsCore, IsCurrent}
use Rattle.input_reading.specs.Shortened.{shortened}
use Rattle.input_reading.specs.Tails.{HasNoLineFeed}
use Rattle.input_reading.specs.Taking.{Loses, TakesLast, TakesNone, TakesWhole}
use Rattle.input_reading.specs.Taking as input
use Rattle.change_log.specs.declared.printing.ChangeFilter.{ChangeFilter}
use Rattle.recording.specs.declared.fault.Fault.{Fault}
use Rattle.recording.specs.declared.fault.Fault.TheVariants as fault
use Rattle.recording.specs.declared.version.Version.{Version}
use Rattle.replay.specs.Pages.{AddsLines, AddsPart}
use Rattle.replay.specs.Stops.{AreWholeLines}
use Rattle.replay.specs.declared.buffer.PrintError.{PrintError}
use Rattle.replay.specs.declared.buffer.PrintError.TheVariants as stop
use Rattle.replay.proofs.Paging.{adds_more, adds_moved, adds_none, page_whole, part_more, part_moved, part_now}
use Rattle.change_log.specs.Changes.{Give}
use Rattle.change_log.specs.Following.{Ends, IsAtFault, IsFirstTaken, AreBytesFollowed, IsLineLeft, IsLineTaken, StopsIn, StopsTaking, TakesOneLine, ReportsLine}
use Rattle.change_log.specs.Lines.{AtFault, Change, lines_of}
use Rattle.change_log.specs.Runs.{Comes, Fails, Says, StopsAtTaken, Taken, TellsLines, TellsTaken, ToldPart, ToldTaken}
use Rattle.change_log.specs.Streams.{NoneFails, AreLinesTaken, ComesFrom, IsLineReadAs}
use Rattle.change_log.specs.declared.following.End.{End}
use Rattle.change_log.specs.declared.following.End.TheVariants as end
use Rattle.change_log.specs.declared.following.Run.{Run}
use Rattle.change_log.proofs.Cores.{give_taken}
use Rattle.change_log.proofs.Comes.{comes_behind, comes_held, held_none}
use Rattle.change_log.proofs.RunSteps.{gives_after, one_line, tells_more}

-- nothing came
pub none_lost : (held : List ℕ) (known : Option (List ℕ)) → Loses held known held known
none_lost held known = ([], Consumes-nil (prepend_known held known))

-- ---- the lines that were taken

taken_more : (v : Version) (bytes raw : List ℕ) (taken : List Taken) (t : Taken) → AreLinesTaken v bytes taken → HasNoLineFeed raw → IsLineReadAs v (shortened raw) t → AreLinesTaken v (bytes ++ (raw ++ 10 ∷ [])) (taken ++ t ∷ [])
taken_more v bytes raw [] t none one reads = (raw, [], one, reads, ap (λ l. l ++ (raw ++ 10 ∷ [])) none, refl)
taken_more v bytes raw (x ∷ taken) t (first, rest, has, says, is, more) one reads =
    (first, rest ++ (raw ++ 10 ∷ []), has, says, ap (λ l. l ++ (raw ++ 10 ∷ [])) is ∙ append_assoc first (10 ∷ rest) (raw ++ 10 ∷ []), taken_more v rest raw taken t more one reads)

taken_all : (v : Version) (bytes others : List ℕ) (taken more : List Taken) → AreLinesTaken v bytes taken → AreLinesTaken v others more → AreLinesTaken v (bytes ++ others) (taken ++ more)
taken_all v bytes others [] more none lines = subst (λ l. AreLinesTaken v (l ++ others) more) (sym none) lines
taken_all v bytes others (x ∷ taken) more (first, rest, has, says, is, left) lines =
    (first, rest ++ others, has, says, ap (λ l. l ++ others) is ∙ append_assoc first (10 ∷ rest) others, taken_all v rest others taken more left lines)

say_more : (taken more : List Taken) → NoneFails taken → NoneFails more → NoneFails (taken ++ more)
say_more [] more all behind = behind
say_more (Says l ∷ taken) more all behind = say_more taken more all behind
say_more (Comes l ∷ taken) more all behind = say_more taken more all behind
say_more (Fails f ∷ taken) more all behind = absurd all

-- ---- one line

module _ (old : Run) (t : Taken) (reads : IsLineReadAs old.version old.line.items t) (said : old.skips_faults ≡ false → NoneFails (t ∷ [])) (whole : AreWholeLines (string_bytes old.buffer)) where
  abbrev wanted : ChangeFilter
  wanted = old.at.wanted

  told_first : (why : PrintError) (from to : Option (List ℕ)) (new : CoreValue) (told : List Change) → TellsTaken old.at.answers old.core t new told → AddsPart why from to (string_bytes old.buffer ++ lines_of old.at.number wanted told)
      → StopsTaking why old from to
  told_first why from to new told tells part = record {
    taken = t ∷ [];
    reads = (reads, refl);
    said = said;
    part = λ before given. record {
      text = lines_of old.at.number wanted told;
      after = before ++ told;
      now = new;
      run = one_line wanted old.at.answers old.core new old.at.number t before told tells (give_taken old.at.answers before told old.core new t given tells);
      part = part;
    };
  }

  -- its report was not written whole
  pub stops_behind : (why : PrintError) (from to on : Option (List ℕ)) (new : CoreValue) (put : List ℕ) → ToldTaken wanted old.at.answers old.core old.at.number t new from to (string_bytes old.buffer) put → AddsPart why to on put → StopsTaking why old from on
  stops_behind why from to on new put h part =
      told_first why from on new h.told h.tells (part_moved why from to on (string_bytes old.buffer) put (lines_of old.at.number wanted h.told) whole h.printed part)

  -- memory ran out after it
  pub stops_after : (from to : Option (List ℕ)) (new : CoreValue) (put : List ℕ) → ToldTaken wanted old.at.answers old.core old.at.number t new from to (string_bytes old.buffer) put → StopsTaking stop.Memory old from to
  stops_after from to new put h = told_first stop.Memory from to new h.told h.tells (part_now from to (string_bytes old.buffer) put (lines_of old.at.number wanted h.told) whole h.printed)

-- a fault that is reported
pub fault_tells : (old : Run) (at : Fault) (from to : Option (List ℕ)) (put : List ℕ) → AddsLines from to (string_bytes old.buffer) put (lines_of old.at.number old.at.wanted (AtFault at ∷ []))
    → ToldTaken old.at.wanted old.at.answers old.core old.at.number (Fails at) old.core from to (string_bytes old.buffer) put
fault_tells old at from to put printed = record { told = AtFault at ∷ []; tells = (refl, refl); printed = printed }

pub fault_stops : (why : PrintError) (old : Run) (at : Fault) (from to : Option (List ℕ)) → AddsPart why from to (string_bytes old.buffer ++ lines_of old.at.number old.at.wanted (AtFault at ∷ []))
    → StopsAtTaken why old.at.wanted old.at.answers old.core old.at.number (Fails at) old.core from to (string_bytes old.buffer)
fault_stops why old at from to part = inl (AtFault at ∷ [], (refl, refl), part)

-- lines with a fault are skipped
pub skipped : (skips_faults : Bool) → skips_faults ≡ true → skips_faults ≡ false → ⊥
skipped skips_faults is none = apart (sym is ∙ none)
  where
    apart : true ≡ false → ⊥
    apart e = cc

-- the reading of the line, by its own name
pub read_as : (v : Version) (line given : List ℕ) (t : Taken) → given ≡ line → IsLineReadAs v given t → IsLineReadAs v line t
read_as v line given t is reads = subst (λ (l : List ℕ). IsLineReadAs v l t) is reads

-- the report of the line was passed on, and the next line has the next number
pub settled : (old mid new : Run) (from to on : Option (List ℕ)) → IsLineTaken old mid from to × (mid.at.number ≡ old.at.number) → AddsLines to on (string_bytes mid.buffer) (string_bytes new.buffer) [] → new.at.number ≡ mid.at.number + 1
    → new.version ≡ mid.version → new.skips_faults ≡ mid.skips_faults → new.progress ≡ mid.progress → new.at.wanted ≡ mid.at.wanted → new.at.answers ≡ mid.at.answers → new.core ≡ mid.core
    → IsLineTaken old new from on × (new.at.number ≡ old.at.number + 1)
settled old mid new from to on (h, counted) moved next version skips_faults progress wanted answers core = (
  record {
    same = record { version = version ∙ h.same.version; skips_faults = skips_faults ∙ h.same.skips_faults; progress = progress ∙ h.same.progress; wanted = wanted ∙ h.same.wanted; answers = answers ∙ h.same.answers };
    taken = h.taken;
    reads = h.reads;
    said = h.said;
    told = record {
      told = h.told.told;
      tells = subst (λ (c : CoreValue). TellsTaken old.at.answers old.core h.taken c h.told.told) (sym core) h.told.tells;
      printed = adds_moved from to on (string_bytes old.buffer) (string_bytes mid.buffer) (string_bytes new.buffer) (lines_of old.at.number old.at.wanted h.told.told) h.told.printed moved;
    };
    core = subst IsCore (sym core) h.core;
    current = subst IsCurrent (sym core) h.current;
  },
  next ∙ ap (λ n. n + 1) counted,
)

pub told_page : (old mid : Run) (from to : Option (List ℕ)) → IsLineTaken old mid from to → AreWholeLines (string_bytes old.buffer) → AreWholeLines (string_bytes mid.buffer)
told_page old mid from to h whole = page_whole from to (string_bytes old.buffer) (string_bytes mid.buffer) (lines_of old.at.number old.at.wanted h.told.told) h.told.printed whole

pub takes_none : (left : Option Fault) (old new : Run) (from to : Option (List ℕ)) → left ≡ None → TakesOneLine left old new from to → IsLineTaken old new from to × (new.at.number ≡ old.at.number + 1)
takes_none left old new from to is h = subst (λ (l : Option Fault). TakesOneLine l old new from to) is h

pub takes_some : (left : Option Fault) (at : Fault) (old new : Run) (from to : Option (List ℕ)) → left ≡ Some at → TakesOneLine left old new from to → IsLineLeft at old new from to
takes_some left at old new from to is h = subst (λ (l : Option Fault). TakesOneLine l old new from to) is h

pub tells_none : (left : Option Fault) (old new : Run) (from to : Option (List ℕ)) → left ≡ None → ReportsLine left old new from to → IsLineTaken old new from to × (new.at.number ≡ old.at.number)
tells_none left old new from to is h = subst (λ (l : Option Fault). ReportsLine l old new from to) is h

-- memory ran out before it was taken
pub stops_before : (old : Run) (from : Option (List ℕ)) → AreWholeLines (string_bytes old.buffer) → StopsTaking stop.Memory old from from
stops_before old from whole = record {
  taken = [];
  reads = tt;
  said = λ no. tt;
  part = λ before given. record {
    text = [];
    after = before;
    now = old.core;
    run = (refl, refl, refl);
    part = part_now from from (string_bytes old.buffer) (string_bytes old.buffer) [] whole (adds_none from (string_bytes old.buffer));
  };
}

-- it stops at the line
pub stops_at : (why : PrintError) (old : Run) (t : Taken) (new : CoreValue) (from to : Option (List ℕ)) → IsLineReadAs old.version old.line.items t → (old.skips_faults ≡ false → NoneFails (t ∷ [])) → AreWholeLines (string_bytes old.buffer)
    → StopsAtTaken why old.at.wanted old.at.answers old.core old.at.number t new from to (string_bytes old.buffer) → StopsTaking why old from to
stops_at why old t new from to reads said whole (inl (told, tells, part)) = told_first old t reads said whole why from to new told tells part
stops_at why old t new from to reads said whole (inr (is, same)) =
    subst (λ (w : PrintError). StopsTaking w old from to) (sym is) (subst (λ (o : Option (List ℕ)). StopsTaking stop.Memory old from o) (sym same) (stops_before old from whole))

-- the report was not passed on whole
pub told_stops : (why : PrintError) (old mid : Run) (from to on : Option (List ℕ)) → IsLineTaken old mid from to → AreWholeLines (string_bytes old.buffer) → AddsPart why to on (string_bytes mid.buffer) → StopsTaking why old from on
told_stops why old mid from to on h whole part = stops_behind old h.taken h.reads h.said whole why from to on mid.core (string_bytes mid.buffer) h.told part

-- memory ran out after it
pub told_memory : (old mid : Run) (from to on : Option (List ℕ)) (buffer : List ℕ) → IsLineTaken old mid from to → AddsLines to on (string_bytes mid.buffer) buffer [] → AreWholeLines (string_bytes old.buffer) → StopsTaking stop.Memory old from on
told_memory old mid from to on buffer h moved whole =
    let told : List ℕ = lines_of old.at.number old.at.wanted h.told.told in
    let all : AddsLines from on (string_bytes old.buffer) buffer told = adds_moved from to on (string_bytes old.buffer) (string_bytes mid.buffer) buffer told h.told.printed moved in
    stops_after old h.taken h.reads h.said whole from on mid.core buffer (record { told = h.told.told; tells = h.told.tells; printed = all })

-- ---- lines, one after the other

-- so much was taken of the input
pub record SoFar (before : List Change) (old new : Run) (held kept : List ℕ) (known left : Option (List ℕ)) (from to : Option (List ℕ)) : Type 0 where
  pub bytes : List ℕ
  pub read : input.Takes held known kept left bytes
  pub followed : AreBytesFollowed before bytes old new from to

pub followed_none : (before : List Change) (old : Run) (from : Option (List ℕ)) → AreBytesFollowed before [] old old from from
followed_none before old from = record {
  same = record { version = refl; skips_faults = refl; progress = refl; wanted = refl; answers = refl };
  taken = [];
  lines = refl;
  said = λ no. tt;
  counted = omega arith;
  told = record { text = []; after = before; run = (refl, refl, refl); printed = adds_none from (string_bytes old.buffer) };
}

pub so_far_none : (before : List Change) (old : Run) (held : List ℕ) (known : Option (List ℕ)) (from : Option (List ℕ)) → SoFar before old old held held known known from from
so_far_none before old held known from = record { bytes = []; read = Consumes-nil (prepend_known held known); followed = followed_none before old from }

module _ (before : List Change) (old mid : Run) (held kept : List ℕ) (known left : Option (List ℕ)) (from to : Option (List ℕ))
    (given : Give before old.core) (h : SoFar before old mid held kept known left from to) where
  abbrev f : AreBytesFollowed before h.bytes old mid from to
  f = h.followed

  -- ---- a line more, which is in this run

  module _ (came : Run) (version : came.version ≡ mid.version) (skips_faults : came.skips_faults ≡ mid.skips_faults) (progress : came.progress ≡ mid.progress) (number : came.at.number ≡ mid.at.number) (wanted : came.at.wanted ≡ mid.at.wanted) (answers : came.at.answers ≡ mid.at.answers)
      (core : came.core ≡ mid.core) (buffer : string_bytes came.buffer ≡ string_bytes mid.buffer) where
    version_is : came.version ≡ old.version
    version_is = version ∙ f.same.version

    skips_is : came.skips_faults ≡ old.skips_faults
    skips_is = skips_faults ∙ f.same.skips_faults

    -- the lines of before, and these
    run_more : (more : List Taken) (text : List ℕ) (after : List Change) (now : CoreValue) → TellsLines came.at.wanted came.at.answers came.core came.at.number more f.told.after text after now
        → TellsLines old.at.wanted old.at.answers old.core old.at.number (f.taken ++ more) before (f.told.text ++ text) after now
    run_more more text after now lines =
        let a : TellsLines old.at.wanted came.at.answers came.core came.at.number more f.told.after text after now =
        subst (λ (o : ChangeFilter). TellsLines o came.at.answers came.core came.at.number more f.told.after text after now) (wanted ∙ f.same.wanted) lines in
        let b : TellsLines old.at.wanted old.at.answers came.core came.at.number more f.told.after text after now =
        subst (λ x. TellsLines old.at.wanted x came.core came.at.number more f.told.after text after now) (answers ∙ f.same.answers) a in
        let c : TellsLines old.at.wanted old.at.answers mid.core came.at.number more f.told.after text after now =
        subst (λ (x : CoreValue). TellsLines old.at.wanted old.at.answers x came.at.number more f.told.after text after now) core b in
        let d : TellsLines old.at.wanted old.at.answers mid.core (old.at.number + length f.taken) more f.told.after text after now =
        subst (λ n. TellsLines old.at.wanted old.at.answers mid.core n more f.told.after text after now) (number ∙ f.counted) c in
        tells_more old.at.wanted old.at.answers old.core mid.core now old.at.number f.taken more before f.told.after after f.told.text text f.told.run d

    given_now : Give f.told.after came.core
    given_now = subst (λ (x : CoreValue). Give f.told.after x) (sym core) (gives_after old.at.wanted old.at.answers old.core mid.core old.at.number f.taken before f.told.after f.told.text given f.told.run)

    -- the lines of before, to this run
    pub followed_as : AreBytesFollowed before h.bytes old came from to
    followed_as = record {
      same = record { version = version_is; skips_faults = skips_is; progress = progress ∙ f.same.progress; wanted = wanted ∙ f.same.wanted; answers = answers ∙ f.same.answers };
      taken = f.taken;
      lines = f.lines;
      said = f.said;
      counted = number ∙ f.counted;
      told = record {
        text = f.told.text;
        after = f.told.after;
        run = subst (λ (c : CoreValue). TellsLines old.at.wanted old.at.answers old.core old.at.number f.taken before f.told.text f.told.after c) (sym core) f.told.run;
        printed = subst (λ (l : List ℕ). AddsLines from to (string_bytes old.buffer) l f.told.text) (sym buffer) f.told.printed;
      };
    }

    module _ (next : List ℕ) (further : Option (List ℕ)) (w : TakesWhole kept left next further came.line.items) where
      abbrev longer : List ℕ
      longer = h.bytes ++ (w.raw ++ 10 ∷ [])

      read_more : input.Takes held known next further longer
      read_more = Consumes-trans (prepend_known held known) (prepend_known kept left) (prepend_known next further) h.bytes (w.raw ++ 10 ∷ []) h.read w.taken

      reads_as : (t : Taken) → IsLineReadAs came.version came.line.items t → IsLineReadAs old.version (shortened w.raw) t
      reads_as t reads = subst (λ (l : List ℕ). IsLineReadAs old.version l t) w.handed_on (subst (λ v. IsLineReadAs v came.line.items t) version_is reads)

      pub so_far_more : (new : Run) (on : Option (List ℕ)) → IsLineTaken came new to on × (new.at.number ≡ came.at.number + 1) → SoFar before old new held next known further from on
      so_far_more new on (x, next_number) =
          let text : List ℕ = lines_of came.at.number came.at.wanted x.told.told in
          let line = one_line came.at.wanted came.at.answers came.core new.core came.at.number x.taken f.told.after x.told.told x.told.tells
          (give_taken came.at.answers f.told.after x.told.told came.core new.core x.taken given_now x.told.tells) in
          record {
            bytes = longer;
            read = read_more;
            followed = record {
              same = record { version = x.same.version ∙ version_is; skips_faults = x.same.skips_faults ∙ skips_is; progress = x.same.progress ∙ progress ∙ f.same.progress; wanted = x.same.wanted ∙ wanted ∙ f.same.wanted; answers = x.same.answers ∙ answers ∙ f.same.answers };
              taken = f.taken ++ x.taken ∷ [];
              lines = taken_more old.version h.bytes w.raw f.taken x.taken f.lines w.one (reads_as x.taken x.reads);
              said = λ no. say_more f.taken (x.taken ∷ []) (f.said no) (x.said (skips_is ∙ no));
              counted = omega (arith, next_number, number, f.counted, length-append f.taken (x.taken ∷ []));
              told = record {
                text = f.told.text ++ text;
                after = f.told.after ++ x.told.told;
                run = run_more (x.taken ∷ []) text (f.told.after ++ x.told.told) new.core line;
                printed = adds_more from to on (string_bytes old.buffer) (string_bytes mid.buffer) (string_bytes new.buffer) f.told.text text f.told.printed
                    (subst (λ (l : List ℕ). AddsLines to on l (string_bytes new.buffer) text) buffer x.told.printed);
              };
            };
          }

      -- it has a fault, and is not taken
      pub fault_next : (at : Fault) (new : Run) (on : Option (List ℕ)) → IsLineLeft at came new to on → IsAtFault at before old new held known further from on
      fault_next at new on x = record {
        bytes = h.bytes;
        followed = record {
          same = record { version = x.same.version ∙ version_is; skips_faults = x.same.skips_faults ∙ skips_is; progress = x.same.progress ∙ progress ∙ f.same.progress; wanted = x.same.wanted ∙ wanted ∙ f.same.wanted; answers = x.same.answers ∙ answers ∙ f.same.answers };
          taken = f.taken;
          lines = f.lines;
          said = f.said;
          counted = x.counted ∙ number ∙ f.counted;
          told = record {
            text = f.told.text;
            after = f.told.after;
            run = subst (λ (c : CoreValue). TellsLines old.at.wanted old.at.answers old.core old.at.number f.taken before f.told.text f.told.after c) (sym (x.core ∙ core)) f.told.run;
            printed = subst (λ (l : List ℕ). AddsLines from on (string_bytes old.buffer) l f.told.text) (sym (x.buffer ∙ buffer)) (subst (λ (o : Option (List ℕ)). AddsLines from o (string_bytes old.buffer) (string_bytes mid.buffer) f.told.text) (sym x.out) f.told.printed);
          };
        };
        raw = w.raw;
        line = w.one;
        comes = comes_longer;
        is = inl (reads_as (Fails at) x.reads);
      }
        where
          comes_longer : ComesFrom (prepend_known held known) further (h.bytes ++ w.raw)
          comes_longer =
              let all = comes_held (prepend_known held known) further longer next read_more in
              record {
                ahead = 10 ∷ all.ahead;
                read = subst (λ l. Consumes (prepend_known held known) further l) (ap (λ l. l ++ all.ahead) (sym (append_assoc h.bytes w.raw (10 ∷ []))) ∙ append_assoc (h.bytes ++ w.raw) (10 ∷ []) all.ahead) all.read;
              }

      -- it stops at the line
      pub stops_next : (why : PrintError) (on : Option (List ℕ)) → AreWholeLines (string_bytes old.buffer) → StopsTaking why came to on → StopsIn why before old held known further from on
      stops_next why on whole x = elim x.taken as (λ (ts : List Taken). ts ≡ x.taken → StopsIn why before old held known further from on) [
        | [] ↦ λ is. nothing_more is
        | t ∷ ts ↦ λ is. one_more t ts is
      ] refl
        where
          part : ToldPart why came.at.wanted came.at.answers came.core came.at.number x.taken f.told.after to on (string_bytes came.buffer)
          part = x.part f.told.after given_now

          stopped : (taken : List Taken) → taken ≡ x.taken → (bytes : List ℕ) → ComesFrom (prepend_known held known) further bytes → AreLinesTaken old.version bytes (f.taken ++ taken) → (old.skips_faults ≡ false → NoneFails (f.taken ++ taken))
              → StopsIn why before old held known further from on
          stopped taken is bytes comes lines said = record {
            bytes = bytes;
            comes = comes;
            taken = f.taken ++ taken;
            lines = lines;
            said = said;
            part = record {
              text = f.told.text ++ part.text;
              after = part.after;
              now = part.now;
              run = subst (λ (ts : List Taken). TellsLines old.at.wanted old.at.answers old.core old.at.number (f.taken ++ ts) before (f.told.text ++ part.text) part.after part.now) (sym is) (run_more x.taken part.text part.after part.now part.run);
              part = part_more why from to on (string_bytes old.buffer) (string_bytes mid.buffer) f.told.text part.text whole f.told.printed
                  (subst (λ (l : List ℕ). AddsPart why to on (l ++ part.text)) buffer part.part);
            };
          }

          nothing_more : [] ≡ x.taken → StopsIn why before old held known further from on
          nothing_more is =
              let all = comes_held (prepend_known held known) further longer next read_more in
              stopped [] is h.bytes
              (record { ahead = (w.raw ++ 10 ∷ []) ++ all.ahead; read = subst (λ l. Consumes (prepend_known held known) further l) (append_assoc h.bytes (w.raw ++ 10 ∷ []) all.ahead) all.read })
              (subst (AreLinesTaken old.version h.bytes) (sym (append-nil f.taken)) f.lines) (λ no. subst NoneFails (sym (append-nil f.taken)) (f.said no))

          one_more : (t : Taken) (ts : List Taken) → t ∷ ts ≡ x.taken → StopsIn why before old held known further from on
          one_more t ts is =
              let first = subst (λ (l : List Taken). IsFirstTaken came.version came.line.items l) (sym is) x.reads in
              stopped (t ∷ ts) is longer (comes_held (prepend_known held known) further longer next read_more)
              (subst (λ (l : List Taken). AreLinesTaken old.version longer (f.taken ++ t ∷ l)) (sym first.1) (taken_more old.version h.bytes w.raw f.taken t f.lines w.one (reads_as t first.0)))
              (λ no. say_more f.taken (t ∷ ts) (f.said no) (subst NoneFails (sym is) (x.said (skips_is ∙ no))))

  -- ---- lines after these

  module _ (further : Option (List ℕ)) where
    comes_on : (bytes : List ℕ) → ComesFrom (prepend_known kept left) further bytes → ComesFrom (prepend_known held known) further (h.bytes ++ bytes)
    comes_on bytes comes = comes_behind (prepend_known held known) (prepend_known kept left) further h.bytes bytes h.read comes

    run_on : (more : List Taken) (text : List ℕ) (after : List Change) (now : CoreValue) → TellsLines mid.at.wanted mid.at.answers mid.core mid.at.number more f.told.after text after now
        → TellsLines old.at.wanted old.at.answers old.core old.at.number (f.taken ++ more) before (f.told.text ++ text) after now
    run_on = run_more mid refl refl refl refl refl refl refl refl

    lines_on : (bytes : List ℕ) (taken : List Taken) → AreLinesTaken mid.version bytes taken → AreLinesTaken old.version (h.bytes ++ bytes) (f.taken ++ taken)
    lines_on bytes taken lines = taken_all old.version h.bytes bytes f.taken taken f.lines (subst (λ v. AreLinesTaken v bytes taken) f.same.version lines)

    followed_on : (new : Run) (on : Option (List ℕ)) (bytes : List ℕ) → AreBytesFollowed f.told.after bytes mid new to on → AreBytesFollowed before (h.bytes ++ bytes) old new from on
    followed_on new on bytes g = record {
      same = record {
        version = g.same.version ∙ f.same.version;
        skips_faults = g.same.skips_faults ∙ f.same.skips_faults;
        progress = g.same.progress ∙ f.same.progress;
        wanted = g.same.wanted ∙ f.same.wanted;
        answers = g.same.answers ∙ f.same.answers;
      };
      taken = f.taken ++ g.taken;
      lines = lines_on bytes g.taken g.lines;
      said = λ no. say_more f.taken g.taken (f.said no) (g.said (f.same.skips_faults ∙ no));
      counted = omega (arith, g.counted, f.counted, length-append f.taken g.taken);
      told = record {
        text = f.told.text ++ g.told.text;
        after = g.told.after;
        run = run_on g.taken g.told.text g.told.after new.core g.told.run;
        printed = adds_more from to on (string_bytes old.buffer) (string_bytes mid.buffer) (string_bytes new.buffer) f.told.text g.told.text f.told.printed g.told.printed;
      };
    }

    pub ends_on : (e : End) (new : Run) (on : Option (List ℕ)) → Ends e f.told.after mid new kept left further to on → Ends e before old new held known further from on
    ends_on end.Over new on (bytes, g, all, at_end) =
        (h.bytes ++ bytes, followed_on new on bytes g, Consumes-trans (prepend_known held known) (prepend_known kept left) further h.bytes bytes h.read all, at_end)
    ends_on end.Unread new on (bytes, g, comes) = (h.bytes ++ bytes, followed_on new on bytes g, comes_on bytes comes)
    ends_on (end.AtFault at) new on x = record {
      bytes = h.bytes ++ x.bytes;
      followed = followed_on new on x.bytes x.followed;
      raw = x.raw;
      line = x.line;
      comes = subst (ComesFrom (prepend_known held known) further) (sym (append_assoc h.bytes x.bytes x.raw)) (comes_on (x.bytes ++ x.raw) x.comes);
      is = read_on x.is;
    }
      where
        read_on : IsLineReadAs mid.version (shortened x.raw) (Fails at) ⊎ ((x.raw ≢ []) × (at ≡ fault.Truncated) × IsAtEnd further)
            → IsLineReadAs old.version (shortened x.raw) (Fails at) ⊎ ((x.raw ≢ []) × (at ≡ fault.Truncated) × IsAtEnd further)
        read_on (inl reads) = inl (subst (λ v. IsLineReadAs v (shortened x.raw) (Fails at)) f.same.version reads)
        read_on (inr cut) = inr cut

    pub stops_on : (why : PrintError) (on : Option (List ℕ)) → AreWholeLines (string_bytes old.buffer) → StopsIn why f.told.after mid kept left further to on → StopsIn why before old held known further from on
    stops_on why on whole x = record {
      bytes = h.bytes ++ x.bytes;
      comes = comes_on x.bytes x.comes;
      taken = f.taken ++ x.taken;
      lines = lines_on x.bytes x.taken x.lines;
      said = λ no. say_more f.taken x.taken (f.said no) (x.said (f.same.skips_faults ∙ no));
      part = record {
        text = f.told.text ++ x.part.text;
        after = x.part.after;
        now = x.part.now;
        run = run_on x.taken x.part.text x.part.after x.part.now x.part.run;
        part = part_more why from to on (string_bytes old.buffer) (string_bytes mid.buffer) f.told.text x.part.text whole f.told.printed x.part.part;
      };
    }

    pub given_on : Give f.told.after mid.core
    given_on = given_now mid refl refl refl refl refl refl refl refl

  pub so_far_page : AreWholeLines (string_bytes old.buffer) → AreWholeLines (string_bytes mid.buffer)
  so_far_page whole = page_whole from to (string_bytes old.buffer) (string_bytes mid.buffer) f.told.text f.told.printed whole

  -- ---- no line more

  -- the input is over
  pub over : (next : List ℕ) (further : Option (List ℕ)) (line : List ℕ) → TakesNone kept left next further line → Consumes (prepend_known held known) further h.bytes × IsAtEnd further
  over next further line w =
      let all = Consumes-trans (prepend_known held known) (prepend_known kept left) (prepend_known next further) h.bytes [] h.read w.taken in
      (subst (λ (o : Option (List ℕ)). Consumes (prepend_known held known) o h.bytes) (held_none further next w.ended.0) (subst (Consumes (prepend_known held known) (prepend_known next further)) (append-nil h.bytes) all), w.ended.1)

  -- it could not be read further
  pub unread : (next : List ℕ) (further : Option (List ℕ)) → Loses kept left next further → ComesFrom (prepend_known held known) further h.bytes
  unread next further (lost, taken) =
      let all = comes_held (prepend_known held known) further (h.bytes ++ lost) next (Consumes-trans (prepend_known held known) (prepend_known kept left) (prepend_known next further) h.bytes lost h.read taken) in
      record { ahead = lost ++ all.ahead; read = subst (λ l. Consumes (prepend_known held known) further l) (append_assoc h.bytes lost all.ahead) all.read }

  -- memory ran out
  pub stops_here : (why : PrintError) (next : List ℕ) (further : Option (List ℕ)) → why ≡ stop.Memory → AreWholeLines (string_bytes old.buffer) → Loses kept left next further → StopsIn why before old held known further from to
  stops_here why next further is whole lost = record {
    bytes = h.bytes;
    comes = unread next further lost;
    taken = f.taken;
    lines = f.lines;
    said = f.said;
    part = record {
      text = f.told.text;
      after = f.told.after;
      now = mid.core;
      run = f.told.run;
      part = subst (λ (w : PrintError). AddsPart w from to (string_bytes old.buffer ++ f.told.text)) (sym is) (part_now from to (string_bytes old.buffer) (string_bytes mid.buffer) f.told.text whole f.told.printed);
    };
  }

  -- the last line has no line feed
  pub cut_last : (new : Run) (next : List ℕ) (further : Option (List ℕ)) (line : List ℕ) → TakesLast kept left next further line → AreBytesFollowed before h.bytes old new from to → IsAtFault fault.Truncated before old new held known further from to
  cut_last new next further line w followed = record {
    bytes = h.bytes;
    followed = followed;
    raw = w.raw;
    line = w.one;
    comes = comes_held (prepend_known held known) further (h.bytes ++ w.raw) next (Consumes-trans (prepend_known held known) (prepend_known kept left) (prepend_known next further) h.bytes w.raw h.read w.taken);
    is = inr (w.some, refl, w.ended.1);
  }
