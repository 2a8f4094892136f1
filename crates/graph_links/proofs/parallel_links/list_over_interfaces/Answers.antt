use Rattle.graph_links.proofs.Adding.{over_on, over_all}
use Rattle.graph_links.proofs.parallel_links.list_over_interfaces.Goals as goal

pub loop-up-preserved : goal.loop-up-preserved
loop-up-preserved c =
    over_on c.args.root c.args.end c.args.interfaces.now c.loop-up.up-index (record { id = 0; address = 0 }) c.args.ways.now.items c.loop-up.ways.items c.list_over_interface.new.ways.items c.loop-up-test.true c.loop-up.invariant c.in_ok-list_over_interface.ensures

pub returns : goal.returns
returns c = over_all c.args.root c.args.end c.args.interfaces.now c.loop-up.up-index c.args.ways.now.items c.loop-up.ways.items c.loop-up-test.false c.loop-up.invariant
