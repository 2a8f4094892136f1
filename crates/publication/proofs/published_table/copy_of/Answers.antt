use Rattle.std.proofs.Common.{List, map, Some, ap, ◌∙◌}
use Rattle.std.specs.Prelude.{Option}
use Rattle.ospf_types.specs.Network.{Network}
use Rattle.route_table.specs.declared.table.Item.{Item}
use Rattle.route_table.specs.Tables.{TableValue}
use Rattle.route_table.specs.Changes.{with_all}
use Rattle.route_table.proofs.Folding.{leads}
use Rattle.publication.proofs.Folds.{nothing_leads}
use Rattle.publication.proofs.published_table.copy_of.Goals as goal

pub loop-prefix-init : goal.loop-prefix-init
loop-prefix-init c =
    let given : List (Network × Item) → List (Network × Option Item) = λ es. map (λ (e : Network × Item). (e.0, Some e.1)) es in
    let left = c.into_iter-prefix-iterator.ensures.into_iter_gives ∙ c.items-prefix-items.ensures.all in
    let empty = c.empty_copy-copy.ensures in (
      (λ i. with_all (ap (λ (t : TableValue). t.items) empty i) (given (left i))) ∙ leads _ c.args.table.now.items _ (nothing_leads c.args.table.now.items),
      ap (λ (t : TableValue). t.serial) empty,
    )
