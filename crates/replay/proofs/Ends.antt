-- The written part of a replay that ends.
use Rattle.std.proofs.Common.{◌≡◌, ℕ, List, [], ◌++◌, Option, inl, inr, refl, sym, ap, subst, ◌∙◌, append-nil}
use Rattle.std.specs.Io.KnownBytes.{Appends}
use Rattle.output_lines.specs.declared.format.Format.{Format}
use Rattle.event_state.specs.declared.base.Base.{Base}
use Rattle.event_core.specs.Cores.{CoreValue}
use Rattle.recording.specs.declared.fault.LineFault.{LineFault}
use Rattle.recording.specs.declared.line.Line.{Line}
use Rattle.recording.specs.Recordings.{RecordingValue}
use Rattle.output_lines.specs.declared.format.Show.{Show}
use Rattle.recording.specs.declared.version.Version.{Version}
use Rattle.output_lines.specs.declared.format.Show.TheVariants as show
use Rattle.replay.specs.Lines.{first_number, serial_line, recorded_text}
use Rattle.replay.specs.Runs.{Answers, Prints, IsOpened}
use Rattle.replay.specs.declared.fault.ReplayFault.{ReplayFault}
use Rattle.replay.specs.declared.fault.ReplayFault.TheVariants as fault
use Rattle.replay.specs.declared.buffer.PrintError.{PrintError}
use Rattle.replay.specs.declared.buffer.PrintError.TheVariants as stop
use Rattle.replay.specs.declared.printing.PrintOptions.{PrintOptions}
use Rattle.replay.specs.Stops.{AreWholeLines, fault_of}
use Rattle.replay.specs.Outputs.{IsRun, IsShown, IsOutput, LosesNoEvent, Replays, ReplaysPart, journal_of}
use Rattle.replay.specs.Pages.{AddsLines, AddsPart, Ran, RanPart, IsRunTo}
use Rattle.replay.specs.Parts.{IsRecordingRead, PrintsRun, WritesOutput, WritesPart}
use Rattle.replay.proofs.Written.{appends_none}
use Rattle.replay.proofs.Wholes.{none_whole, append_whole, serial_whole}
use Rattle.replay.proofs.Completing.{completed}
use Rattle.replay.proofs.Paging.{adds_put, adds_more, adds_moved, page_whole, part_more, part_moved}

-- memory ran out before anything was written
pub none_written : (v : Version) (old : CoreValue) (lines : List Line) (p : PrintOptions) (a : Option (List ℕ)) → IsOpened old.base old → WritesPart stop.Memory (record { version = v; base = old.base; lines = lines }) p a a
none_written v old lines p a opening = record { part = []; is = inl (record { opened = old; opening = opening; cause = refl; none = refl }); written = appends_none a }

is_run : (format : Format) (v : Version) (old new : CoreValue) (lines : List Line) (answers : Answers) (text : List ℕ) → IsOpened old.base old → Prints format old (first_number v old.base) lines answers text new
    → IsRun format (record { version = v; base = old.base; lines = lines }) answers text new
is_run format v old new lines answers text opening run = record { opened = old; opening = opening; run = run }

-- the run ended early
pub run_cut : (why : PrintError) (v : Version) (old : CoreValue) (lines : List Line) (p : PrintOptions) (s : Show) (a b : Option (List ℕ)) (before : List ℕ) → IsOpened old.base old → p.show ≡ s → PrintsRun s → before ≡ []
    → RanPart why p.format old (first_number v old.base) lines a b before → WritesPart why (record { version = v; base = old.base; lines = lines }) p a b
run_cut why v old lines p s a b before opening is prints none h =
    let part : AddsPart why a b h.text = subst (λ w. AddsPart why a b (w ++ h.text)) none h.part in
    record {
      part = part.part;
      is = inr (inl (record {
        prints = subst PrintsRun (sym is) prints;
        count = h.count;
        answers = h.answers;
        printed = h.text;
        now = h.now;
        run = is_run p.format v old h.now _ h.answers h.text opening h.run;
        part = part.beginning;
      }));
      written = part.appended;
    }

-- an output was printed, and its end is on the buffer
pub record Whole (r : RecordingValue) (p : PrintOptions) (a b : Option (List ℕ)) (buffer : List ℕ) : Type 0 where
  pub answers : Answers
  pub memory : LosesNoEvent p.show answers
  pub whole : List ℕ
  pub is : IsOutput r p answers whole
  pub printed : AddsLines a b [] buffer whole

output_cut : (why : PrintError) (r : RecordingValue) (p : PrintOptions) (answers : Answers) (whole : List ℕ) (a b : Option (List ℕ)) → IsOutput r p answers whole → AddsPart why a b whole → WritesPart why r p a b
output_cut why r p answers whole a b is h =
    record { part = h.part; is = inr (inr (record { answers = answers; whole = whole; output = is; part = h.beginning })); written = h.appended }

pub whole_cut : (why : PrintError) (r : RecordingValue) (p : PrintOptions) (a b c : Option (List ℕ)) (buffer : List ℕ) → Whole r p a b buffer → AddsPart why b c buffer → WritesPart why r p a c
whole_cut why r p a b c buffer h stopped = output_cut why r p h.answers h.whole a c h.is (part_moved why a b c [] buffer h.whole none_whole h.printed stopped)

pub whole_written : (r : RecordingValue) (p : PrintOptions) (a b c : Option (List ℕ)) (buffer last : List ℕ) → Whole r p a b buffer → AddsLines b c buffer last [] → last ≡ [] → WritesOutput r p a c
whole_written r p a b c buffer last h moved none =
    let all = adds_moved a b c [] buffer last h.whole h.printed moved in
    let same : all.written ≡ h.whole = sym (append-nil all.written) ∙ ap (λ l. all.written ++ l) (sym none) ∙ sym all.joined in
    record { answers = h.answers; memory = h.memory; output = h.whole; is = h.is; written = subst (Appends a c) same all.appended }

-- ---- a run whose lines are printed, and then the state that is shown

-- the refusal of an event is among these lines
told_of_lines : (s : Show) (answers : Answers) → PrintsRun s → LosesNoEvent s answers
told_of_lines show.Routes answers prints = tt
told_of_lines show.Due answers prints = tt
told_of_lines show.Lsdb answers prints = tt
told_of_lines show.Journal answers prints = absurd prints

-- the contents of a buffer that was empty
pub ran_page : (format : Format) (old new : CoreValue) (first : ℕ) (lines : List Line) (a b : Option (List ℕ)) (before buffer put : List ℕ) → before ≡ [] → Ran format old first lines new a b before buffer
    → put ≡ buffer ++ serial_line format new → AreWholeLines put
ran_page format old new first lines a b before buffer put none ran serial =
    subst AreWholeLines (sym serial) (append_whole buffer (serial_line format new) (page_whole a b before buffer ran.text ran.printed (inl none)) (serial_whole format new))

module _ (v : Version) (old new : CoreValue) (lines : List Line) (p : PrintOptions) (s : Show) (a b c : Option (List ℕ)) (before buffer put tail : List ℕ) (opening : IsOpened old.base old) (is : p.show ≡ s) (prints : PrintsRun s)
    (none : before ≡ []) (ran : Ran p.format old (first_number v old.base) lines new a b before buffer) (serial : put ≡ buffer ++ serial_line p.format new)
    (shown : (printed : List ℕ) → IsShown v s p.format printed new ((printed ++ serial_line p.format new) ++ tail)) where
  output : IsOutput (record { version = v; base = old.base; lines = lines }) p ran.answers ((ran.text ++ serial_line p.format new) ++ tail)
  output = record {
    printed = ran.text;
    closed = new;
    run = is_run p.format v old new lines ran.answers ran.text opening ran.run;
    shown = subst (λ (q : Show). IsShown v q p.format ran.text new ((ran.text ++ serial_line p.format new) ++ tail)) (sym is) (shown ran.text);
  }

  printed : AddsLines a b [] put (ran.text ++ serial_line p.format new)
  printed = adds_put a b [] buffer ran.text put (serial_line p.format new) (subst (λ w. AddsLines a b w buffer ran.text) none ran.printed) serial (serial_whole p.format new)

  pub shown_whole : (moved : List ℕ) → AddsLines b c put moved tail → Whole (record { version = v; base = old.base; lines = lines }) p a c moved
  shown_whole moved more = record {
    answers = ran.answers;
    memory = subst (λ (q : Show). LosesNoEvent q ran.answers) (sym is) (told_of_lines s ran.answers prints);
    whole = (ran.text ++ serial_line p.format new) ++ tail;
    is = output;
    printed = adds_more a b c [] put moved (ran.text ++ serial_line p.format new) tail printed more;
  }

  pub shown_cut : (why : PrintError) → (AreWholeLines put → AddsPart why b c (put ++ tail)) → WritesPart why (record { version = v; base = old.base; lines = lines }) p a c
  shown_cut why stopped =
      output_cut why (record { version = v; base = old.base; lines = lines }) p ran.answers ((ran.text ++ serial_line p.format new) ++ tail) a c output
      (part_more why a b c [] put (ran.text ++ serial_line p.format new) tail none_whole printed (stopped (ran_page p.format old new (first_number v old.base) lines a b before buffer put none ran serial)))

-- ---- the journal, alone

module _ (v : Version) (old new : CoreValue) (lines : List Line) (p : PrintOptions) (a b : Option (List ℕ)) (before : List ℕ) (opening : IsOpened old.base old) (is : p.show ≡ show.Journal) (none : before ≡ [])
    (taken : IsRunTo old lines new) where
  abbrev journal : List ℕ
  journal = recorded_text p.format (journal_of v new)

  journal_output : IsOutput (record { version = v; base = old.base; lines = lines }) p (taken p.format (first_number v old.base)).0 journal
  journal_output =
      let (answers, text, run, memory) = taken p.format (first_number v old.base) in
      record {
        printed = text;
        closed = new;
        run = is_run p.format v old new lines answers text opening run;
        shown = subst (λ (q : Show). IsShown v q p.format text new journal) (sym is) refl;
      }

  pub journal_whole : (moved : List ℕ) → AddsLines a b before moved journal → Whole (record { version = v; base = old.base; lines = lines }) p a b moved
  journal_whole moved more = record {
    answers = (taken p.format (first_number v old.base)).0;
    memory = subst (λ (q : Show). LosesNoEvent q (taken p.format (first_number v old.base)).0) (sym is) (taken p.format (first_number v old.base)).3;
    whole = journal;
    is = journal_output;
    printed = subst (λ w. AddsLines a b w moved journal) none more;
  }

  pub journal_cut : (why : PrintError) → (AreWholeLines before → AddsPart why a b (before ++ journal)) → WritesPart why (record { version = v; base = old.base; lines = lines }) p a b
  journal_cut why stopped =
      output_cut why (record { version = v; base = old.base; lines = lines }) p (taken p.format (first_number v old.base)).0 journal a b journal_output (subst (λ w. AddsPart why a b (w ++ journal)) none (stopped (inl none)))

-- ---- the whole replay

-- the parts belong to the recording
whole_of : (r : RecordingValue) (v : Version) (base : Base) (lines : List Line) → v ≡ r.version → base ≡ r.base → lines ≡ r.lines → record { version = v; base = base; lines = lines } ≡ r
whole_of r v base lines same_version same_base same_lines = λ i. record { version = same_version i; base = same_base i; lines = same_lines i }

pub output_of : (p : PrintOptions) (old new : Option (List ℕ)) (r : RecordingValue) (v : Version) (base : Base) (lines : List Line) → v ≡ r.version → base ≡ r.base → lines ≡ r.lines
    → WritesOutput (record { version = v; base = base; lines = lines }) p old new → WritesOutput r p old new
output_of p old new r v base lines same_version same_base same_lines h = subst (λ (q : RecordingValue). WritesOutput q p old new) (whole_of r v base lines same_version same_base same_lines) h

pub part_of : (why : PrintError) (p : PrintOptions) (old new : Option (List ℕ)) (r : RecordingValue) (v : Version) (base : Base) (lines : List Line) → v ≡ r.version → base ≡ r.base → lines ≡ r.lines
    → WritesPart why (record { version = v; base = base; lines = lines }) p old new → WritesPart why r p old new
part_of why p old new r v base lines same_version same_base same_lines h =
    subst (λ (q : RecordingValue). WritesPart why q p old new) (whole_of r v base lines same_version same_base same_lines) h

pub replays : (p : PrintOptions) (before after old new : Option (List ℕ)) (r : RecordingValue) → IsRecordingRead before after r → WritesOutput r p old new → Replays p before after old new
replays p before after old new r read h =
    record { bytes = read.bytes; read = read.read; recording = r; text = read.text; answers = h.answers; memory = h.memory; output = h.output; is = h.is; written = h.written }

pub replays_part : (why : PrintError) (p : PrintOptions) (before after old new : Option (List ℕ)) (r : RecordingValue) → IsRecordingRead before after r → WritesPart why r p old new → ReplaysPart why p before after old new
replays_part why p before after old new r read h =
    record { bytes = read.bytes; read = read.read; recording = r; text = read.text; part = h.part; is = completed why r p h.part h.is; written = h.written }

-- ---- the stop of a fault

pub stopped_by : (why known : PrintError) (p : PrintOptions) (old new : Option (List ℕ)) (r : RecordingValue) → why ≡ known → WritesPart why r p old new → WritesPart known r p old new
stopped_by why known p old new r is h = subst (λ (w : PrintError). WritesPart w r p old new) is h

-- the reason that ends the printing is not a fault of a line
pub no_line : (why : PrintError) (given : ReplayFault) (f : LineFault) → given ≡ fault_of why → given ≡ fault.Line f → ⊥
no_line stop.Write given f is h = cc
no_line stop.Closed given f is h = cc
no_line stop.Memory given f is h = cc

pub stop_of_write : (why : PrintError) (given : ReplayFault) → given ≡ fault_of why → given ≡ fault.Write → why ≡ stop.Write
stop_of_write stop.Write given is h = refl
stop_of_write stop.Closed given is h = cc
stop_of_write stop.Memory given is h = cc

pub stop_of_closed : (why : PrintError) (given : ReplayFault) → given ≡ fault_of why → given ≡ fault.Closed → why ≡ stop.Closed
stop_of_closed stop.Write given is h = cc
stop_of_closed stop.Closed given is h = refl
stop_of_closed stop.Memory given is h = cc

pub stop_of_memory : (why : PrintError) (given : ReplayFault) → given ≡ fault_of why → given ≡ fault.Memory → why ≡ stop.Memory
stop_of_memory stop.Write given is h = cc
stop_of_memory stop.Closed given is h = cc
stop_of_memory stop.Memory given is h = refl
