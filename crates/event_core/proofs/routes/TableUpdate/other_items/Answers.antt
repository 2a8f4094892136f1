use Rattle.std.proofs.Common.{List, sym, subst}
use Rattle.std.specs.Prelude.{Option}
use Rattle.ospf_types.specs.declared.prefix.Prefix.{Prefix}
use Rattle.route_table.specs.declared.table.Item.{Item}
use Rattle.event_core.proofs.OtherItems.{AreOthersTo, others_none, others_more, others_all}
use Rattle.event_core.proofs.routes.TableUpdate.other_items.Goals as goal

pub loop-network-init : goal.loop-network-init
loop-network-init c =
    let first = others_none c.args.self.calculation.now c.args.self.table.now.items c.args.networks.now c.requires in
    subst (λ (items : List (Prefix × Option Item)). AreOthersTo c.args.self.calculation.now c.args.self.table.now.items c.args.networks.now 0 items) (sym c.in_ok-items.ensures.items) first

pub loop-network-preserved : goal.loop-network-preserved
loop-network-preserved c =
    others_more _ _ c.args.networks.now c.loop-network.network-index c.network-item.result c.loop-network-test.true c.network-item.is c.loop-network.items.items c.push_other.new.items.items c.loop-network.invariant c.in_ok-push_other.ensures

pub returns : goal.returns
returns c = others_all _ _ c.args.networks.now c.loop-network.network-index c.loop-network.items.items c.loop-network-test.false c.loop-network.invariant
