use Rattle.std.proofs.Common.{◌∙◌, ◌++◌, string_bytes}
use Rattle.std.proofs.lemmas.Result.{on_ok_weaker}
use Rattle.event_core.specs.Cores.{state_of}
use Rattle.event_state.specs.States.{serial_of}
use Rattle.page_sections.specs.Areas.{areas_heading_text}
use Rattle.page_sections.specs.Frame.{beginning_text}
use Rattle.page_replay.specs.Sections.{AddsFront, tables_text}
use Rattle.page_replay.proofs.Texts.{four}
use Rattle.page_replay.proofs.sections.put_front.Goals as goal

pub returns : goal.returns
returns c =
    let core = c.args.core.now in
    let pictures = c.in_ok-put_pictures.ensures in
    on_ok_weaker _ (λ is.
    let added : AddsFront core (string_bytes c.args.text.now) (string_bytes c.put_tables.new.text) = (
      pictures.0,
      pictures.1,
      four (string_bytes c.args.text.now) (string_bytes c.put_beginning.new.text) (string_bytes c.put_areas_heading.new.text) (string_bytes c.put_pictures.new.text) (string_bytes c.put_tables.new.text)
          (beginning_text (state_of core).config.router (serial_of (state_of core))) areas_heading_text pictures.0 (tables_text core)
          (c.in_ok-put_beginning.ensures ∙ (λ i. string_bytes c.args.text.now ++ beginning_text (c.config.ensures.value i).router (c.serial.ensures.state i)))
          c.in_ok-put_areas_heading.ensures pictures.2 is,
    ) in
    added)
    c.put_tables.ensures
