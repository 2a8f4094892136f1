use Rattle.graph_links.specs.EndOrder.{listed_end}
use Rattle.graph_links.proofs.Adding.{ways_none, ways_on, ways_all}
use Rattle.graph_links.proofs.parallel_links.all_ways.Goals as goal

pub loop-end-init : goal.loop-end-init
loop-end-init c = ways_none c.args.local.root c.args.router c.args.local.interfaces.now c.new-ways.result.items c.new-ways.ensures.items

pub loop-end-preserved : goal.loop-end-preserved
loop-end-preserved c =
    ways_on c.args.local.root c.args.router c.args.local.interfaces.now c.args.ends.now c.loop-end.end-index (listed_end 0) c.loop-end.ways.items c.list_over.new.ways.items c.loop-end-test.true c.loop-end.invariant c.in_ok-list_over.ensures

pub returns : goal.returns
returns c = ways_all c.args.local.root c.args.router c.args.local.interfaces.now c.args.ends.now c.loop-end.end-index c.loop-end.ways.items c.loop-end-test.false c.loop-end.invariant
