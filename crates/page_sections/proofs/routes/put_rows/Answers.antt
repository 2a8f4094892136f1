use Rattle.std.proofs.Common.{◌++◌, ap, ◌∙◌, string_bytes}
use Rattle.std.specs.List.{flat_map}
use Rattle.page_sections.specs.Routes.{row_text}
use Rattle.page_sections.proofs.Pieces.{first_printed, all_printed}
use Rattle.page_sections.proofs.routes.put_rows.Goals as goal

pub loop-network-init : goal.loop-network-init
loop-network-init c = ap (λ l. string_bytes c.args.text.now ++ flat_map row_text l) (c.into_iter-network-iterator.ensures.into_iter_gives ∙ c.items-network-items.ensures.all)

pub loop-network-preserved : goal.loop-network-preserved
loop-network-preserved c = first_printed row_text _ (c.in-Some.network, c.in-Some.item.now) _ _ _ _ c.loop-network.invariant c.in-Some.ensures.steps c.in_ok-put_row.ensures

pub returns : goal.returns
returns c = all_printed row_text _ _ _ c.loop-network.invariant c.in-None.ensures.steps.0
