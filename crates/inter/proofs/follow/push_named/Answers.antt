-- One destination more.
use Rattle.inter.proofs.Following.{pushed_none, pushed_more, pushed_all}
use Rattle.inter.proofs.follow.push_named.Goals as goal

pub loop-dest-init : goal.loop-dest-init
loop-dest-init c = pushed_none c.args.index.now c.args.named.now c.args.dests.now.items

pub loop-dest-preserved : goal.loop-dest-preserved
loop-dest-preserved c =
    pushed_more c.args.index.now c.args.named.now c.loop-dest.dest-index c.dest-item.result c.args.dests.now.items c.loop-dest.dests.items c.push_dest.new.dests.items c.loop-dest-test.true c.dest-item.is c.loop-dest.invariant c.in_ok-push_dest.ensures

pub returns : goal.returns
returns c = pushed_all c.args.index.now c.args.named.now c.loop-dest.dest-index c.args.dests.now.items c.loop-dest.dests.items c.loop-dest-test.false c.loop-dest.invariant
