use Rattle.std.proofs.Common.{ℕ, List, ◌++◌, ◌∙◌, ◌==◌, ap, length, string_bytes}
use Rattle.event_core.specs.Cores.{CoreValue}
use Rattle.page_sections.specs.Frame.{changes_beginning_text, changes_end_text, changes_text, end_text}
use Rattle.page_replay.specs.Sections.{front_text}
use Rattle.page_replay.proofs.Texts.{around, told_is}
use Rattle.page_replay.proofs.sections.page_of.Goals as goal

pub returns : goal.returns
returns c =
    let core : CoreValue = c.args.ended.now.core in
    let told = c.args.ended.now.told.items in
    let front = c.in_ok-put_front.ensures in
    let nothing = c.is_empty-nothing.result in
    record {
      areas = front.0;
      shown = front.1;
      is = around (front_text core front.0) (changes_beginning_text nothing) told (changes_end_text nothing) end_text (changes_text told)
          (string_bytes c.new-text.result) (string_bytes c.put_front.new.text) (string_bytes c.put_changes_beginning.new.text) c.into_bytes-page.result.items c.extend_from_slice.new.self.items
          (string_bytes c.new-end.result) (string_bytes c.put_changes_end.new.text) (string_bytes c.put_end.new.text) c.as_bytes.result.now c.extend_from_slice-2.new.self.items
          c.new-text.ensures.bytes front.2 c.in_ok-put_changes_beginning.ensures (λ i. (c.into_bytes-page.ensures.value i).items) (c.in_ok-extend_from_slice.ensures.items ∙ ap (λ (l : List ℕ). c.into_bytes-page.result.items ++ l) c.as_slice-told.ensures.value)
          c.new-end.ensures.bytes c.in_ok-put_changes_end.ensures c.in_ok-put_end.ensures c.as_bytes.ensures.value c.in_ok-extend_from_slice-2.ensures.items
          (told_is told nothing (c.is_empty-nothing.ensures ∙ ap (λ (l : List ℕ). length l == 0) c.as_slice-told.ensures.value));
    }
