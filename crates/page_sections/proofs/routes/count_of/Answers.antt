use Rattle.std.proofs.Common.{◌<◌, ◌^◌, cond, length, subst, ap, ◌∙◌, arith}
use Rattle.std.specs.FinMap.{entries}
use Rattle.page_sections.specs.Routes.{is_of, same_kind}
use Rattle.page_sections.proofs.Counting.{count_fits}
use Rattle.page_sections.proofs.routes.count_of.Goals as goal

pub overflow_add-count : goal.overflow_add-count
overflow_add-count c =
    let few : length (entries c.args.table.now.items) < 2 ^ 63 = subst (λ l. length l < 2 ^ 63) c.items-item-items.ensures.all c.items-item-items.ensures.few in
    let one_is = c.one_if-count.ensures ∙ ap (λ b. cond b 1 0) (c.is_same.ensures ∙ ap (same_kind c.args.kind) c.kind_of.ensures) in
    let fits = count_fits (is_of c.args.kind) _ _ _ _ c.loop-item.count _ c.loop-item.invariant c.in-Some.ensures.steps one_is few in
    omega (arith, fits)
