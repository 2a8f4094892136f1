-- The beginning and the end of a report.
use Rattle.std.proofs.Common.{◌≡◌, ◌-◌, ◌+◌, ℕ, List, [], ◌++◌, length, map, take, Option, refl, sym, ap, subst, ◌∙◌, append-nil}
use Rattle.std.specs.Prelude.{string_bytes}
use Rattle.std.specs.Io.KnownBytes.{Appends}
use Rattle.event_core.specs.Cores.{CoreValue, IsCore, IsCurrent}
use Rattle.recording.specs.Recordings.{RecordingValue}
use Rattle.recording.specs.declared.line.Line.{Line}
use Rattle.replay.specs.Lines.{first_number}
use Rattle.replay.specs.Pages.{AddsLines, AddsPart}
use Rattle.replay.specs.Runs.{IsOpened}
use Rattle.replay.specs.declared.buffer.PrintError.{PrintError}
use Rattle.replay.specs.declared.buffer.PrintError.TheVariants as stop
use Rattle.replay.proofs.Paging.{adds_more, part_more}
use Rattle.replay.proofs.Wholes.{none_whole}
use Rattle.replay.proofs.Written.{appends_none}
use Rattle.change_log.specs.Begun.{IsRunBegun, StopsAtBase}
use Rattle.change_log.specs.Lines.{Change, lines_of}
use Rattle.change_log.specs.Changes.{all_of}
use Rattle.change_log.specs.Outputs.{IsTelling, base_lines}
use Rattle.change_log.specs.Runs.{Says, Taken, TellsLines, LinesTaken, ToldPart}
use Rattle.change_log.specs.declared.following.Run.{Run}
use Rattle.change_log.specs.declared.printing.ChangeOptions.{ChangeOptions}
use Rattle.change_log.proofs.RunSteps.{given_first}

pub opened_current : (c : CoreValue) → IsOpened c.base c → IsCurrent c
opened_current c h = h.opening.built ∙ sym (ap length h.opening.journal)

-- all that is on the buffer was written
pub all_out : (a b : Option (List ℕ)) (text : List ℕ) → AddsLines a b [] [] text → Appends a b text
all_out a b text h = subst (Appends a b) (sym (append-nil h.written) ∙ sym h.joined) h.appended

module _ (t : ChangeOptions) (r : RecordingValue) (opened : CoreValue) (opening : IsOpened r.base opened) where
  abbrev first : ℕ
  first = first_number r.version r.base

  abbrev base : List ℕ
  base = base_lines t.wanted r opened

  -- the lines of the recording that were run, and those after them
  pub telling : (ls : List Line) (taken : List Taken) (text : List ℕ) (after : List Change) (now : CoreValue) → TellsLines t.wanted t.answers opened first (map Says ls ++ taken) (all_of opened) text after now
      → IsTelling t (record r { lines = ls }) taken (base ++ text)
  telling ls taken text after now run = record {
    opened = opened;
    opening = opening;
    given = given_first opened opening.core;
    told = text;
    after = after;
    closed = now;
    run = run;
    is = refl;
  }

  cut : (why : PrintError) (a b : Option (List ℕ)) (count : ℕ) (text : List ℕ) (after : List Change) (now : CoreValue) → TellsLines t.wanted t.answers opened first (map Says (take count r.lines)) (all_of opened) text after now
      → AddsPart why a b (base ++ text) → StopsAtBase why t r a b
  cut why a b count text after now run part = record {
    count = count;
    whole = base ++ text;
    telling = telling (take count r.lines) [] text after now (subst (λ (ts : List Taken). TellsLines t.wanted t.answers opened first ts (all_of opened) text after now) (sym (append-nil (map Says (take count r.lines)))) run);
    part = part.part;
    beginning = part.beginning;
    written = part.appended;
  }

  shown_at : (number : ℕ) (a b : Option (List ℕ)) (buffer put : List ℕ) → number ≡ first → AddsLines a b buffer put (lines_of (number - 1) t.wanted (all_of opened)) → AddsLines a b buffer put base
  shown_at number a b buffer put counted h = subst (λ n. AddsLines a b buffer put (lines_of (n - 1) t.wanted (all_of opened))) counted h

  -- memory ran out before anything was written
  pub not_begun : (a : Option (List ℕ)) → StopsAtBase stop.Memory t r a a
  not_begun a = cut stop.Memory a a 0 [] (all_of opened) opened (refl, refl, refl) (record { part = []; beginning = record { rest = base ++ []; joined = refl; left = none_whole }; appended = appends_none a })

  -- it stops in what the base gives
  pub base_cut : (number : ℕ) (why : PrintError) (a b : Option (List ℕ)) (buffer : List ℕ) → number ≡ first → buffer ≡ [] → AddsPart why a b (buffer ++ lines_of (number - 1) t.wanted (all_of opened)) → StopsAtBase why t r a b
  base_cut number why a b buffer counted none part =
      cut why a b 0 [] (all_of opened) opened (refl, refl, refl)
      (subst (AddsPart why a b) (ap (λ l. l ++ base) none ∙ sym (append-nil base)) (subst (λ n. AddsPart why a b (buffer ++ lines_of (n - 1) t.wanted (all_of opened))) counted part))

  -- it stops in the lines
  pub lines_cut : (number : ℕ) (why : PrintError) (a b c : Option (List ℕ)) (buffer put : List ℕ) → number ≡ first → buffer ≡ [] → AddsLines a b buffer put (lines_of (number - 1) t.wanted (all_of opened))
      → (count : ℕ) × ToldPart why t.wanted t.answers opened number (map Says (take count r.lines)) (all_of opened) b c put → StopsAtBase why t r a c
  lines_cut number why a b c buffer put counted none shown (count, part) =
      let printed : AddsLines a b [] put base = subst (λ l. AddsLines a b l put base) none (shown_at number a b buffer put counted shown) in
      let h : ToldPart why t.wanted t.answers opened first (map Says (take count r.lines)) (all_of opened) b c put =
      subst (λ n. ToldPart why t.wanted t.answers opened n (map Says (take count r.lines)) (all_of opened) b c put) counted part in
      cut why a c count h.text h.after h.now h.run (part_more why a b c [] put base h.text none_whole printed h.part)

  -- all of them are reported
  pub begun : (run : Run) (number : ℕ) (a b c : Option (List ℕ)) (buffer put moved : List ℕ) → number ≡ first → buffer ≡ [] → AddsLines a b buffer put (lines_of (number - 1) t.wanted (all_of opened))
      → LinesTaken t.wanted t.answers opened number (map Says r.lines) (all_of opened) run.core b c put moved → IsCore run.core → IsCurrent run.core
      → run.version ≡ r.version → run.skips_faults ≡ t.skips_faults → run.at.wanted ≡ t.wanted → run.at.answers ≡ t.answers → run.at.number ≡ number + length r.lines → string_bytes run.buffer ≡ moved
      → IsRunBegun t r run a c
  begun run number a b c buffer put moved counted none shown told core current version skips_faults wanted answers next is =
      let printed : AddsLines a b [] put base = subst (λ l. AddsLines a b l put base) none (shown_at number a b buffer put counted shown) in
      let h : LinesTaken t.wanted t.answers opened first (map Says r.lines) (all_of opened) run.core b c put moved =
      subst (λ n. LinesTaken t.wanted t.answers opened n (map Says r.lines) (all_of opened) run.core b c put moved) counted told in
      record {
        version = version;
        skips_faults = skips_faults;
        wanted = wanted;
        answers = answers;
        number = next ∙ ap (λ n. n + length r.lines) counted;
        core = core;
        current = current;
        opened = opened;
        opening = opening;
        told = h.text;
        after = h.after;
        lines = h.run;
        printed = subst (λ l. AddsLines a c [] l (base ++ h.text)) (sym is) (adds_more a b c [] put moved base h.text printed h.printed);
      }
