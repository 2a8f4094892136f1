use Rattle.std.proofs.Common.{sym}
use Rattle.std.specs.FinMap.{get}
use Rattle.spf.proofs.Offering.{over_more}
use Rattle.spf.proofs.relax.Pending.offer_from.Goals as goal

pub loop-link-preserved : goal.loop-link-preserved
loop-link-preserved c =
    over_more c.args.root (get c.args.distances.now) c.args.links.now c.loop-link.link-index c.link-item.result c.loop-link-test.true c.link-item.is c.args.near c.loop-link.invariant (c.in_ok-offer_over.ensures (get c.args.distances.now) (sym c.get-far.ensures.value))
