-- The end of a recording, by its runs.
use Rattle.std.proofs.Common.{◌≡◌, ◌<◌, ◌+◌, ◌-◌, ◌++◌, ◌∙◌, ◌^◌, ℕ, List, [], Some, false, arith, map, length, ap, sym, subst, append-nil}
use Rattle.std.proofs.lemmas.List.{take-append-drop, length-append}
use Rattle.event_core.specs.Cores.{CoreValue, IsCurrent}
use Rattle.recording.specs.declared.line.Line.{Line}
use Rattle.recording.specs.declared.version.Version.{Version}
use Rattle.replay.specs.Lines.{first_number}
use Rattle.replay.specs.Pages.{AddsLines, IsRunTo}
use Rattle.replay.proofs.Paging.{adds_moved}
use Rattle.change_log.specs.Changes.{all_of}
use Rattle.change_log.specs.Runs.{Says, TellsLines, LinesTaken}
use Rattle.page_replay.specs.Ending.{IsRunToEnd, IsToldLast, all_changes, earlier_lines, last_lines}

-- the text that was written, if nothing was there before and nothing is left in the buffer
written_all : (u v x z text : List ℕ) → AddsLines (Some u) (Some v) x z text → u ≡ [] → x ≡ [] → z ≡ [] → text ≡ v
written_all u v x z text adds unwritten empty left =
    sym (ap (λ (l : List ℕ). l ++ text) empty) ∙ adds.joined ∙ ap (λ (l : List ℕ). adds.written ++ l) left ∙ append-nil adds.written
    ∙ sym (adds.appended ∙ ap (λ (l : List ℕ). l ++ adds.written) unwritten)

module _ (core closed : CoreValue) (number : ℕ) (lines : List Line) (u v w x y z : List ℕ) where
  pub told_last : IsCurrent core → LinesTaken all_changes false core number (map Says lines) (all_of core) closed (Some u) (Some v) x y → AddsLines (Some v) (Some w) y z [] → u ≡ [] → x ≡ [] → z ≡ [] → IsCurrent closed
      → IsToldLast core number lines closed w
  told_last before told moved unwritten empty left current =
      let all : AddsLines (Some u) (Some w) x z told.text = adds_moved (Some u) (Some v) (Some w) x y z told.text told.printed moved in
      record {
        before = before;
        after = told.after;
        run = subst (λ (text : List ℕ). TellsLines all_changes false core number (map Says lines) (all_of core) text told.after closed) (written_all u w x z told.text all unwritten empty left) told.run;
        current = current;
      }

-- the two parts of the lines are as many as these
pub parts_long : (lines earlier last : List Line) → earlier ≡ earlier_lines lines → last ≡ last_lines lines → length earlier + length last ≡ length lines
parts_long lines earlier last first second =
    (λ i. length (first i) + length (second i)) ∙ sym (length-append (earlier_lines lines) (last_lines lines)) ∙ ap (λ (l : List Line). length l) (take-append-drop (length lines - 10) lines)

pub few_enough : (lines earlier last : List Line) (first number : ℕ) → earlier ≡ earlier_lines lines → last ≡ last_lines lines → number ≡ first + length earlier → first + length lines < 2 ^ 64 → number + length last < 2 ^ 64
few_enough lines earlier last first number one two is few = let long = parts_long lines earlier last one two in omega (arith, long, is, few)

module _ (v : Version) (opened from middle closed : CoreValue) (lines earlier last : List Line) (number : ℕ) (told : List ℕ) where
  pub ended : from ≡ opened → earlier ≡ earlier_lines lines → last ≡ last_lines lines → number ≡ first_number v opened.base + length earlier → IsRunTo from earlier middle → IsToldLast middle number last closed told
      → IsRunToEnd v opened lines closed told
  ended same first second is run shown = record {
    middle = middle;
    earlier = subst (λ (c : CoreValue). IsRunTo c (earlier_lines lines) middle) same (subst (λ (l : List Line). IsRunTo from l middle) first run);
    last = subst (λ (n : ℕ). IsToldLast middle n (last_lines lines) closed told) (is ∙ ap (λ (l : List Line). first_number v opened.base + length l) first)
        (subst (λ (l : List Line). IsToldLast middle number l closed told) second shown);
  }
