-- The lines after the preamble were taken: their report, and the written part at the end.
use Rattle.std.proofs.Common.{◌≡◌, ◌≢◌, ◌+◌, ◌⊎◌, ℕ, false, OnOk, Result, Ok, Err, List, [], ◌∷◌, ◌++◌, length, map, take, Option, refl, sym, ap, subst, ◌∙◌, append_assoc, append-nil, arith, inl, inr}
use Rattle.std.proofs.KnownBytes.{Consumes-trans}
use Rattle.std.proofs.lemmas.List.{length-map, take_all}
use Rattle.std.specs.Prelude.{string_bytes}
use Rattle.std.specs.Io.KnownBytes.{Consumes, IsAtEnd, prepend_known}
use Rattle.change_log.specs.declared.printing.ChangeFilter.{ChangeFilter}
use Rattle.recording.specs.declared.line.Line.{Line}
use Rattle.event_core.specs.Cores.{CoreValue}
use Rattle.input_reading.specs.Shortened.{shortened}
use Rattle.recording.specs.Recordings.{RecordingValue, IsText}
use Rattle.recording.specs.declared.fault.Fault.{Fault}
use Rattle.recording.specs.declared.fault.Fault.TheVariants as fault
use Rattle.recording.specs.declared.fault.LineFault.{LineFault}
use Rattle.event_state.specs.declared.base.Base.{Base}
use Rattle.recording.specs.declared.version.Version.{Version}
use Rattle.replay.specs.Outputs.{recording_of}
use Rattle.replay.specs.Lines.{first_number}
use Rattle.replay.specs.Pages.{AddsLines, AddsPart}
use Rattle.replay.specs.declared.buffer.PrintError.{PrintError}
use Rattle.replay.proofs.Paging.{adds_more, adds_moved, page_whole, part_more, part_moved}
use Rattle.replay.proofs.Wholes.{none_whole}
use Rattle.replay.specs.Stops.{AreWholeLines, fault_of}
use Rattle.replay.specs.declared.fault.ReplayFault.{ReplayFault}
use Rattle.replay.specs.declared.fault.ReplayFault.TheVariants as replay_fault
use Rattle.replay.specs.declared.buffer.PrintError.TheVariants as stop
use Rattle.change_log.specs.Begun.{Closes, IsRunBegun, StopsAtBase}
use Rattle.change_log.specs.declared.following.End.{End}
use Rattle.change_log.specs.declared.following.End.TheVariants as end
use Rattle.change_log.specs.Following.{Ends, IsAtFault, AreBytesFollowed, StopsIn}
use Rattle.change_log.specs.Lines.{Change}
use Rattle.change_log.specs.Changes.{Give, all_of}
use Rattle.change_log.specs.Outputs.{AreRecordingBytes, FailsBehind, IsTelling, TellsAll, TellsPart, TellsThese, base_lines}
use Rattle.change_log.specs.Runs.{Comes, Fails, Says, Taken, TellsLines}
use Rattle.input_reading.proofs.Short.{shortened_short}
use Rattle.recording.specs.Progress.{IsLineOf}
use Rattle.recording.proofs.Growing.{text_grows}
use Rattle.change_log.specs.Streams.{NoneFails, AreLinesTaken, ComesFrom, IsLineReadAs, lines_in}
use Rattle.change_log.specs.declared.following.Run.{Run}
use Rattle.change_log.specs.declared.printing.ChangeOptions.{ChangeOptions}
use Rattle.change_log.proofs.Comes.{comes_all, comes_behind, comes_less}
use Rattle.change_log.proofs.Ends.{all_out, telling}
use Rattle.change_log.proofs.RunSteps.{gives_after, given_first, tells_more}

-- ---- the bytes that were read

with_none : (r : RecordingValue) (bytes : List ℕ) → IsText bytes r → IsText (bytes ++ []) (record r { lines = r.lines ++ [] })
with_none r bytes text =
    subst (λ (ls : List Line). IsText (bytes ++ []) (record r { lines = ls })) (sym (append-nil r.lines)) (subst (λ (l : List ℕ). IsText l r) (sym (append-nil bytes)) text)

-- the text of a recording, followed by lines that say something, is the text of one
text_and_lines : (r : RecordingValue) (front behind : List ℕ) (taken : List Taken) → IsText front r → AreLinesTaken r.version behind taken → NoneFails taken → IsText (front ++ behind) (record r { lines = r.lines ++ lines_in taken })
text_and_lines r front behind [] text none all = subst (λ (l : List ℕ). IsText (front ++ l) (record r { lines = r.lines ++ [] })) (sym none) (with_none r front text)
text_and_lines r front behind (Says l ∷ taken) text (raw, rest, one, none, is, more) all = absurd none
text_and_lines r front behind (Comes l ∷ taken) text (raw, rest, one, (short, says), is, more) all =
    let same : shortened raw ≡ raw = shortened_short raw short in
    let longer : IsText (front ++ (raw ++ 10 ∷ [])) (record r { lines = r.lines ++ l ∷ [] }) = text_grows text (subst (λ (x : List ℕ). IsLineOf r.version x l) same says) in
    let all_lines = text_and_lines (record r { lines = r.lines ++ l ∷ [] }) (front ++ (raw ++ 10 ∷ [])) rest taken longer more all in
    let bytes : (front ++ (raw ++ 10 ∷ [])) ++ rest ≡ front ++ behind = append_assoc front (raw ++ 10 ∷ []) rest ∙ ap (λ x. front ++ x) (append_assoc raw (10 ∷ []) rest ∙ sym is) in
    subst (λ (x : List ℕ). IsText x (record r { lines = r.lines ++ l ∷ lines_in taken })) bytes
    (subst (λ (ls : List Line). IsText ((front ++ (raw ++ 10 ∷ [])) ++ rest) (record r { lines = ls })) (append_assoc r.lines (l ∷ []) (lines_in taken)) all_lines)
text_and_lines r front behind (Fails f ∷ taken) text lines all = absurd all

front_bytes : (t : ChangeOptions) (r : RecordingValue) (front : List ℕ) → IsText front r → AreRecordingBytes t front r []
front_bytes t r front text = record {
  front = front;
  behind = [];
  joined = sym (append-nil front);
  text = text;
  lines = refl;
  said = λ no. tt;
  whole = λ no. subst (λ (ls : List Line). IsText front (record r { lines = ls })) (sym (append-nil r.lines)) text;
}

-- ---- the report of the preamble and of the lines after it

module _ (t : ChangeOptions) (r : RecordingValue) (run : Run) (from to : Option (List ℕ)) (h : IsRunBegun t r run from to) where
  abbrev first : ℕ
  first = first_number r.version r.base

  abbrev base : List ℕ
  base = base_lines t.wanted r h.opened

  pub given_begun : Give h.after run.core
  given_begun = gives_after t.wanted t.answers h.opened run.core first (map Says r.lines) (all_of h.opened) h.after h.told (given_first h.opened h.opening.core) h.lines

  pub begun_page : AreWholeLines (string_bytes run.buffer)
  begun_page = page_whole from to [] (string_bytes run.buffer) (base ++ h.told) h.printed none_whole

  -- the telling of the front and of these lines
  told_behind : (taken : List Taken) (text : List ℕ) (after : List Change) (now : CoreValue) → TellsLines run.at.wanted run.at.answers run.core run.at.number taken h.after text after now
      → IsTelling t r taken (base ++ (h.told ++ text))
  told_behind taken text after now lines =
      let n : run.at.number ≡ first + length (map Says r.lines) = h.number ∙ ap (λ k. first + k) (sym (length-map r.lines Says)) in
      let numbered : TellsLines run.at.wanted run.at.answers run.core (first + length (map Says r.lines)) taken h.after text after now =
      subst (λ k. TellsLines run.at.wanted run.at.answers run.core k taken h.after text after now) n lines in
      let wanted : TellsLines t.wanted run.at.answers run.core (first + length (map Says r.lines)) taken h.after text after now =
      subst (λ (o : ChangeFilter). TellsLines o run.at.answers run.core (first + length (map Says r.lines)) taken h.after text after now) h.wanted numbered in
      let asked : TellsLines t.wanted t.answers run.core (first + length (map Says r.lines)) taken h.after text after now =
      subst (λ b. TellsLines t.wanted b run.core (first + length (map Says r.lines)) taken h.after text after now) h.answers wanted in
      telling t r h.opened h.opening r.lines taken (h.told ++ text) after now
      (tells_more t.wanted t.answers h.opened run.core now first (map Says r.lines) taken (all_of h.opened) h.after after h.told text h.lines asked)

  are_all : (front behind : List ℕ) (taken : List Taken) → IsText front r → AreLinesTaken run.version behind taken → (run.skips_faults ≡ false → NoneFails taken) → AreRecordingBytes t (front ++ behind) r taken
  are_all front behind taken is lines said = record {
    front = front;
    behind = behind;
    joined = refl;
    text = is;
    lines = subst (λ v. AreLinesTaken v behind taken) h.version lines;
    said = λ no. said (h.skips_faults ∙ no);
    whole = λ no. text_and_lines r front behind taken is (subst (λ v. AreLinesTaken v behind taken) h.version lines) (said (h.skips_faults ∙ no));
  }

-- all lines so far are reported: the report was written, or is in the buffer
pub record Reached (t : ChangeOptions) (before after : Option (List ℕ)) (r : RecordingValue) (bytes : List ℕ) (buffer : List ℕ) (from to : Option (List ℕ)) : Type 0 where
  pub comes : ComesFrom before after bytes
  pub taken : List Taken
  pub are : AreRecordingBytes t bytes r taken
  pub text : List ℕ
  pub telling : IsTelling t r taken text
  pub printed : AddsLines from to [] buffer text

whole_lines : (t : ChangeOptions) (r : RecordingValue) (taken : List Taken) (text : List ℕ) → IsTelling t r taken text → IsTelling t (record r { lines = take (length r.lines) r.lines }) taken text
whole_lines t r taken text h = subst (λ (ls : List Line). IsTelling t (record r { lines = ls }) taken text) (sym (take_all (length r.lines) r.lines (omega arith))) h

module _ (t : ChangeOptions) (before after : Option (List ℕ)) (r : RecordingValue) (bytes buffer : List ℕ) (from to last : Option (List ℕ)) (h : Reached t before after r bytes buffer from to) where
  -- the contents of the buffer were written
  pub reached_these : AddsLines to last buffer [] [] → TellsThese t before after bytes from last
  reached_these out = record {
    comes = h.comes;
    text = h.text;
    is = record { recording = r; taken = h.taken; are = h.are; telling = h.telling };
    written = all_out from last h.text (adds_moved from to last [] buffer [] h.text h.printed out);
  }

  -- a part of it was
  pub reached_part : (why : PrintError) → AddsPart why to last buffer → TellsPart why t before after from last
  reached_part why part =
      let all : AddsPart why from last h.text = part_moved why from to last [] buffer h.text none_whole h.printed part in
      record {
        bytes = bytes;
        comes = h.comes;
        recording = r;
        taken = h.taken;
        are = h.are;
        count = length r.lines;
        whole = h.text;
        telling = whole_lines t r h.taken h.text h.telling;
        part = all.part;
        beginning = all.beginning;
        written = all.appended;
      }

-- the input is over
pub reached_all : (t : ChangeOptions) (before after : Option (List ℕ)) (bytes : List ℕ) (old new : Option (List ℕ)) → Consumes before after bytes → IsAtEnd after → TellsThese t before after bytes old new → TellsAll t before after old new
reached_all t before after bytes old new read end h = record { bytes = bytes; read = record { read = read; end = end }; text = h.text; is = h.is; written = h.written }

-- a beginning of what the front gives was written
pub base_part : (why : PrintError) (t : ChangeOptions) (before after : Option (List ℕ)) (r : RecordingValue) (front : List ℕ) (from to : Option (List ℕ)) → ComesFrom before after front → IsText front r → StopsAtBase why t r from to
    → TellsPart why t before after from to
base_part why t before after r front from to comes text h = record {
  bytes = front;
  comes = comes;
  recording = r;
  taken = [];
  are = front_bytes t r front text;
  count = h.count;
  whole = h.whole;
  telling = h.telling;
  part = h.part;
  beginning = h.beginning;
  written = h.written;
}

module _ (t : ChangeOptions) (before mid after : Option (List ℕ)) (held front : List ℕ) (r : RecordingValue) (run : Run) (from to : Option (List ℕ))
    (h : IsRunBegun t r run from to) (read : Consumes before (prepend_known held mid) front) (text : IsText front r) where
  -- these bytes came
  module _ (new : Run) (on : Option (List ℕ)) (behind : List ℕ) (f : AreBytesFollowed h.after behind run new to on) where
    abbrev text_behind : List ℕ
    text_behind = base t r run from to h ++ (h.told ++ f.told.text)

    printed_behind : AddsLines from on [] (string_bytes new.buffer) text_behind
    printed_behind = subst (AddsLines from on [] (string_bytes new.buffer)) (append_assoc (base t r run from to h) h.told f.told.text)
        (adds_more from to on [] (string_bytes run.buffer) (string_bytes new.buffer) (base t r run from to h ++ h.told) f.told.text h.printed f.told.printed)

    pub lines_reached : ComesFrom (prepend_known held mid) after behind → Reached t before after r (front ++ behind) (string_bytes new.buffer) from on
    lines_reached comes = record {
      comes = comes_behind before (prepend_known held mid) after front behind read comes;
      taken = f.taken;
      are = are_all t r run from to h front behind f.taken text f.lines f.said;
      text = text_behind;
      telling = told_behind t r run from to h f.taken f.told.text f.told.after new.core f.told.run;
      printed = printed_behind;
    }

  -- one of the lines has a fault
  pub at_fault : (new : Run) (on last : Option (List ℕ)) (l : LineFault) (f : IsAtFault l.fault h.after run new held mid after to on) → l.line ≡ new.at.number → AddsLines on last (string_bytes new.buffer) [] []
      → FailsBehind t before after l from last
  at_fault new on last l f numbered out =
      let g = f.followed in
      record {
        bytes = front ++ f.bytes;
        text = text_behind new on f.bytes g;
        recording = r;
        taken = g.taken;
        are = are_all t r run from to h front f.bytes g.taken text g.lines g.said;
        telling = told_behind t r run from to h g.taken g.told.text g.told.after new.core g.told.run;
        written = all_out from last (text_behind new on f.bytes g) (adds_moved from on last [] (string_bytes new.buffer) [] (text_behind new on f.bytes g) (printed_behind new on f.bytes g) out);
        raw = f.raw;
        line = f.line;
        comes = subst (ComesFrom before after) (sym (append_assoc front f.bytes f.raw)) (comes_behind before (prepend_known held mid) after front (f.bytes ++ f.raw) read f.comes);
        fault = read_at f.is;
        number = numbered ∙ g.counted ∙ ap (λ n. n + length g.taken) h.number ∙ assoc_number (first_number r.version r.base) (length r.lines) (length g.taken);
      }
    where
      read_at : IsLineReadAs run.version (shortened f.raw) (Fails l.fault) ⊎ ((f.raw ≢ []) × (l.fault ≡ fault.Truncated) × IsAtEnd after)
          → IsLineReadAs r.version (shortened f.raw) (Fails l.fault) ⊎ ((f.raw ≢ []) × (l.fault ≡ fault.Truncated) × IsAtEnd after)
      read_at (inl is) = inl (subst (λ v. IsLineReadAs v (shortened f.raw) (Fails l.fault)) h.version is)
      read_at (inr cut) = inr cut

      assoc_number : (a b c : ℕ) → a + b + c ≡ a + (b + c)
      assoc_number a b c = omega arith

  -- it stops in them
  pub lines_part : (why : PrintError) (on : Option (List ℕ)) → StopsIn why h.after run held mid after to on → TellsPart why t before after from on
  lines_part why on s =
      let all : AddsPart why from on ((base t r run from to h ++ h.told) ++ s.part.text) = part_more why from to on [] (string_bytes run.buffer) (base t r run from to h ++ h.told) s.part.text none_whole h.printed s.part.part in
      let whole : List ℕ = base t r run from to h ++ (h.told ++ s.part.text) in
      let part : AddsPart why from on whole = subst (AddsPart why from on) (append_assoc (base t r run from to h) h.told s.part.text) all in
      record {
        bytes = front ++ s.bytes;
        comes = comes_behind before (prepend_known held mid) after front s.bytes read s.comes;
        recording = r;
        taken = s.taken;
        are = are_all t r run from to h front s.bytes s.taken text s.lines s.said;
        count = length r.lines;
        whole = whole;
        telling = whole_lines t r s.taken whole (told_behind t r run from to h s.taken s.part.text s.part.after s.part.now s.part.run);
        part = part.part;
        beginning = part.beginning;
        written = part.appended;
      }

  -- ---- how it ends

  module _ (new : Run) (on last : Option (List ℕ)) (e : End) (ends : Ends e h.after run new held mid after to on) (res : Result (Unit {0}) ReplayFault) (closes : Closes new e res on last) where
    reached_end : (bytes : List ℕ) × Reached t before after r bytes (string_bytes new.buffer) from on
    reached_end = elim e as (λ x. x ≡ e → (bytes : List ℕ) × Reached t before after r bytes (string_bytes new.buffer) from on) [
      | end.Over ↦ λ is. over (subst (λ x. Ends x h.after run new held mid after to on) (sym is) ends)
      | end.Unread ↦ λ is. unread (subst (λ x. Ends x h.after run new held mid after to on) (sym is) ends)
      | end.AtFault f ↦ λ is. at_line f (subst (λ x. Ends x h.after run new held mid after to on) (sym is) ends)
    ] refl
      where
        over : Ends end.Over h.after run new held mid after to on → (bytes : List ℕ) × Reached t before after r bytes (string_bytes new.buffer) from on
        over (bytes, f, all, end) = (front ++ bytes, lines_reached new on bytes f (comes_all (prepend_known held mid) after bytes all))

        unread : Ends end.Unread h.after run new held mid after to on → (bytes : List ℕ) × Reached t before after r bytes (string_bytes new.buffer) from on
        unread (bytes, f, comes) = (front ++ bytes, lines_reached new on bytes f comes)

        at_line : (f : Fault) → Ends (end.AtFault f) h.after run new held mid after to on → (bytes : List ℕ) × Reached t before after r bytes (string_bytes new.buffer) from on
        at_line f x = (front ++ x.bytes, lines_reached new on x.bytes x.followed (comes_less (prepend_known held mid) after x.bytes x.raw x.comes))

    all_told : Closes new e (Ok tt) on last → TellsAll t before after from last
    all_told (is, out) =
        let (bytes, f, all, at_end) = subst (λ x. Ends x h.after run new held mid after to on) is ends in
        reached_all t before after (front ++ bytes) from last (Consumes-trans before (prepend_known held mid) after front bytes read all) at_end
        (reached_these t before after r (front ++ bytes) (string_bytes new.buffer) from on last (lines_reached new on bytes f (comes_all (prepend_known held mid) after bytes all)) out)

    pub ended_ok : OnOk res (TellsAll t before after from last)
    ended_ok = elim res as (λ x. x ≡ res → OnOk x (TellsAll t before after from last)) [ Ok u ↦ λ is. all_told (subst (λ x. Closes new e x on last) (sym is) closes) | Err f ↦ λ is. tt ] refl

    pub ended_read : res ≡ Err replay_fault.Read → (bytes : List ℕ) × TellsThese t before after bytes from last
    ended_read is =
        let (unread, out) = subst (λ x. Closes new e x on last) is closes in
        let (bytes, f, comes) = subst (λ x. Ends x h.after run new held mid after to on) unread ends in
        (front ++ bytes, reached_these t before after r (front ++ bytes) (string_bytes new.buffer) from on last (lines_reached new on bytes f comes) out)

    pub ended_line : (l : LineFault) → res ≡ Err (replay_fault.Line l) → FailsBehind t before after l from last
    ended_line l is =
        let (at, numbered, out) = subst (λ x. Closes new e x on last) is closes in
        at_fault new on last l (subst (λ x. Ends x h.after run new held mid after to on) at ends) numbered out

    pub ended_write : res ≡ Err replay_fault.Write → TellsPart stop.Write t before after from last
    ended_write is =
        let (bytes, reached) = reached_end in
        reached_part t before after r bytes (string_bytes new.buffer) from on last reached stop.Write (subst (λ x. Closes new e x on last) is closes)

    pub ended_closed : res ≡ Err replay_fault.Closed → TellsPart stop.Closed t before after from last
    ended_closed is =
        let (bytes, reached) = reached_end in
        reached_part t before after r bytes (string_bytes new.buffer) from on last reached stop.Closed (subst (λ x. Closes new e x on last) is closes)

    pub ended_memory : res ≡ Err replay_fault.Memory → ⊥
    ended_memory is = subst (λ x. Closes new e x on last) is closes

-- ---- why a stop is no other fault

apart_read : (why : PrintError) → fault_of why ≡ replay_fault.Read → ⊥
apart_read stop.Write e = cc
apart_read stop.Closed e = cc
apart_read stop.Memory e = cc

apart_line : (why : PrintError) (f : LineFault) → fault_of why ≡ replay_fault.Line f → ⊥
apart_line stop.Write f e = cc
apart_line stop.Closed f e = cc
apart_line stop.Memory f e = cc

pub not_read : (why : PrintError) (given : ReplayFault) → given ≡ fault_of why → given ≡ replay_fault.Read → ⊥
not_read why given is read = apart_read why (sym is ∙ read)

pub not_line : (why : PrintError) (given : ReplayFault) (f : LineFault) → given ≡ fault_of why → given ≡ replay_fault.Line f → ⊥
not_line why given f is line = apart_line why f (sym is ∙ line)

pub line_apart : (given : ReplayFault) (f : LineFault) → given ≡ replay_fault.Line f → (given ≡ replay_fault.Write → ⊥) × (given ≡ replay_fault.Closed → ⊥)
line_apart given f is = (λ write. write_apart (sym is ∙ write), λ closed. closed_apart (sym is ∙ closed))
  where
    write_apart : replay_fault.Line f ≡ replay_fault.Write → ⊥
    write_apart e = cc

    closed_apart : replay_fault.Line f ≡ replay_fault.Closed → ⊥
    closed_apart e = cc

pub stopped_at : (why known : PrintError) (t : ChangeOptions) (before after from to : Option (List ℕ)) → why ≡ known → TellsPart why t before after from to → TellsPart known t before after from to
stopped_at why known t before after from to is h = subst (λ (w : PrintError). TellsPart w t before after from to) is h

-- the text of the front, by the parts of its recording
pub opened_text : (given front : List ℕ) (r : RecordingValue) (v : Version) (b : Base) (lines : List Line) → given ≡ front → v ≡ r.version → b ≡ r.base → lines ≡ r.lines → IsText given r → IsText front (recording_of v b lines)
opened_text given front r v b lines same version base ls text =
    let is : recording_of v b lines ≡ r = λ i. recording_of (version i) (base i) (ls i) in
    subst (λ (x : RecordingValue). IsText front x) (sym is) (subst (λ (l : List ℕ). IsText l r) same text)
