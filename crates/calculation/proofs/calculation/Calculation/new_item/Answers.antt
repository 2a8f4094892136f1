use Rattle.std.proofs.Common.{sym, ap, ◌∙◌}
use Rattle.std.specs.Prelude.{Option, Some, option_copied}
use Rattle.std.proofs.lemmas.Result.{IfOk-weaker}
use Rattle.route_table.specs.declared.table.Item.{Item}
use Rattle.route_table.specs.declared.table.Item.TheVariants as item
use Rattle.route_table.specs.Changes.{IsNewItem}
use Rattle.calculation.specs.Calculations.{IsItemOf, IsNewItemOf}
use Rattle.calculation.proofs.NewItems.{new_item_of}
use Rattle.calculation.proofs.calculation.Calculation.new_item.Goals as goal

pub returns-in-Some : goal.returns-in-Some
returns-in-Some c =
    let i : Option Item = Some (item.Route c.in-Some.entry.now) in
    let is : IsItemOf c.args.self.now c.args.network i = sym c.entry_next.ensures ∙ ap option_copied c.in-Some.is in
    IfOk-weaker c.new_route.result (IsNewItem c.args.table.now.items c.args.network i) (IsNewItemOf c.args.self.now c.args.table.now.items c.args.network)
    (λ found. new_item_of c.args.self.now c.args.table.now.items c.args.network i found is) c.new_route.ensures
