use Rattle.std.proofs.Common.{◌++◌, ◌∙◌, ap, string_bytes, sym}
use Rattle.std.proofs.lemmas.Result.{on_ok_weaker}
use Rattle.page_sections.proofs.Listed.{all_listed}
use Rattle.page_sections.proofs.summaries.put_areas.Goals as goal

pub returns : goal.returns
returns c =
    on_ok_weaker c.put_each.result (λ printed. printed ∙ ap (λ l. string_bytes c.args.text.now ++ l) (all_listed c.args.areas.now (sym c.is_empty.ensures ∙ c.if-is_empty.false))) c.put_each.ensures
