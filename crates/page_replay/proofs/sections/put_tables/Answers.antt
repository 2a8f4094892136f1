use Rattle.std.proofs.Common.{◌∙◌, ◌++◌, ap, string_bytes}
use Rattle.std.specs.FinMap.{entries}
use Rattle.std.proofs.lemmas.Result.{on_ok_weaker}
use Rattle.ospf_types.specs.declared.config.Config.{Config}
use Rattle.event_core.specs.Cores.{state_of}
use Rattle.page_sections.specs.Ranges.{ranges_text}
use Rattle.page_sections.specs.Routes.{routes_text}
use Rattle.page_sections.specs.Summaries.{listed, summaries_text}
use Rattle.page_replay.proofs.Texts.{three}
use Rattle.page_replay.proofs.sections.put_tables.Goals as goal

pub returns : goal.returns
returns c =
    let core = c.args.core.now in
    let areas = c.as_slice.ensures ∙ ap (λ (k : Config). k.areas) c.config.ensures.value in
    on_ok_weaker _ (λ is. three (string_bytes c.args.text.now) (string_bytes c.put_ranges.new.text) (string_bytes c.put_routes.new.text) (string_bytes c.put_summaries.new.text)
    (ranges_text (entries core.table.items) (state_of core).config.areas) (routes_text (entries core.table.items)) (summaries_text core.summaries)
    (c.in_ok-put_ranges.ensures ∙ (λ i. string_bytes c.args.text.now ++ ranges_text (entries (c.table.ensures.value i).items) (areas i)))
    (c.in_ok-put_routes.ensures ∙ (λ i. string_bytes c.put_ranges.new.text ++ routes_text (entries (c.table-2.ensures.value i).items)))
    (is ∙ (λ i. string_bytes c.put_routes.new.text ++ summaries_text (listed (c.areas.ensures i))) ∙ (λ i. string_bytes c.put_routes.new.text ++ summaries_text (c.summaries.ensures.value i))))
    c.put_summaries.ensures
