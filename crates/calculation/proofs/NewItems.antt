-- The facts of a calculation that a new item of a table shows.
use Rattle.std.proofs.Common.{◌≡◌, sym, ap, subst, ◌∙◌}
use Rattle.std.specs.Prelude.{Option, Some, None}
use Rattle.std.specs.FinMap.{FinMap}
use Rattle.ospf_types.specs.declared.prefix.Prefix.{Prefix}
use Rattle.ospf_types.specs.Network.{network_cmp}
use Rattle.route_table.specs.declared.table.Item.{Item}
use Rattle.route_table.specs.Changes.{IsNewItem}
use Rattle.calculation.specs.Calculations.{CalculationValue, IsItemOf, IsNewItemOf}

-- the new item of the network is what the table is to have for it
pub new_item_of : (c : CalculationValue) (items : FinMap network_cmp Item) (p : Prefix) (i : Option Item) (found : Option (Prefix × Option Item)) → IsItemOf c p i → IsNewItem items p i found → IsNewItemOf c items p found
new_item_of c items p i None is same = subst (IsItemOf c p) (sym same) is
new_item_of c items p i (Some new) is has =
    let named : new.0 ≡ p = ap (λ (n : Prefix × Option Item). n.0) has.0 in
    let gives : new.1 ≡ i = ap (λ (n : Prefix × Option Item). n.1) has.0 in
    (named, subst (IsItemOf c p) (sym gives) is, λ same. has.1 (same ∙ gives))
