use Rattle.std.proofs.Common.{◌≡◌, ◌+◌, [], List, Option, Some, None, take, sym, ap, subst, ◌∙◌}
use Rattle.std.specs.FinMap.{FinMap, insert}
use Rattle.std.proofs.lemmas.List.{take_all}
use Rattle.ospf_types.specs.declared.prefix.Prefix.{Prefix}
use Rattle.ospf_types.specs.Network.{network_cmp}
use Rattle.route_table.specs.declared.table.Item.{Item}
use Rattle.route_table.specs.Tables.{TableValue}
use Rattle.calculation.specs.Calculations.{IsItemOf}
use Rattle.route_layers.proofs.Filling.{AreFilled, none_filled, one_filled, one_empty, all_filled}
use Rattle.calculation.proofs.calculation.Calculation.table.Goals.{in-Some+in_ok-set, in_default}
use Rattle.calculation.proofs.calculation.Calculation.table.Goals as goal

pub loop-network-init : goal.loop-network-init
loop-network-init c =
    let wanted : Prefix → Option Item → Type 0 = IsItemOf c.args.self.now in
    record {
      filled = subst (λ (items : FinMap network_cmp Item). AreFilled wanted [] items) (sym (ap (λ (t : TableValue). t.items) c.new-table.ensures)) (none_filled wanted);
      serial = ap (λ (t : TableValue). t.serial) c.new-table.ensures;
    }

pub loop-network-preserved : goal.loop-network-preserved
loop-network-preserved c =
    let wanted : Prefix → Option Item → Type 0 = IsItemOf c.args.self.now in
    let networks = c.deref-network-items.result.now in
    let i = c.loop-network.network-index in
    let q : Prefix = c.network-item.result in
    elim c.match-branch-3.branch [
      | in-Some+in_ok-set w ↦
          let is : wanted q (Some w.in-Some.item) = subst (wanted q) w.in-Some.is c.in_ok-item.ensures in
          let set : c.match-branch-3.table ≡ record c.loop-network.table { items = insert c.loop-network.table.items q w.in-Some.item } = w.table-is ∙ w.in_ok-set.ensures.ok in
          record {
            filled = subst (λ (items : FinMap network_cmp Item). AreFilled wanted (take (i + 1) networks) items) (sym (ap (λ (t : TableValue). t.items) set))
                (one_filled wanted networks c.loop-network.table.items i q c.loop-network-test.true c.network-item.is c.loop-network.invariant.filled w.in-Some.item is);
            serial = ap (λ (t : TableValue). t.serial) set ∙ c.loop-network.invariant.serial;
          }
      | in_default w ↦
          let is : wanted q None = subst (wanted q) w.in_default.is c.in_ok-item.ensures in
          record {
            filled = subst (λ (items : FinMap network_cmp Item). AreFilled wanted (take (i + 1) networks) items) (sym (ap (λ (t : TableValue). t.items) w.table-is))
                (one_empty wanted networks c.loop-network.table.items i q c.loop-network-test.true c.network-item.is c.loop-network.invariant.filled is);
            serial = ap (λ (t : TableValue). t.serial) w.table-is ∙ c.loop-network.invariant.serial;
          }
    ]

pub returns-clause-items : goal.returns-clause-items
returns-clause-items c =
    let wanted : Prefix → Option Item → Type 0 = IsItemOf c.args.self.now in
    let listed : List Prefix = c.in_ok-networks.field-0.items in
    let same : take c.loop-network.network-index c.deref-network-items.result.now ≡ listed = take_all c.loop-network.network-index c.deref-network-items.result.now c.loop-network-test.false ∙ c.deref-network-items.ensures.value in
    all_filled wanted listed c.loop-network.table.items (subst (λ (list : List Prefix). AreFilled wanted list c.loop-network.table.items) same c.loop-network.invariant.filled) c.in_ok-networks.ensures
