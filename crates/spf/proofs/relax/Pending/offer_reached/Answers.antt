use Rattle.std.proofs.Common.{take, sym, ◌+◌}
use Rattle.std.specs.FinMap.{get}
use Rattle.spf.specs.Offers.{OverReached}
use Rattle.spf.proofs.Offering.{reached_more, unreached_more, made_renamed}
use Rattle.spf.proofs.relax.Pending.offer_reached.Goals as goal
use Rattle.spf.proofs.relax.Pending.offer_reached.Goals.{in-Some+in_ok-offer_over, in_default}

pub loop-link-preserved : goal.loop-link-preserved
loop-link-preserved c =
    let distance = get c.args.distances.now in
    let links = c.args.links.now in
    let i = c.loop-link.link-index in
    let l = c.link-item.result in
    elim c.match-get.branch [
      | in-Some+in_ok-offer_over w ↦
          made_renamed {offers = OverReached c.args.root distance (take (i + 1) links)} w.self-is
          (reached_more c.args.root distance links i l c.loop-link-test.true c.link-item.is w.in-Some.near (sym w.in-Some.ensures.value) c.loop-link.invariant (w.in_ok-offer_over.ensures distance (sym w.get-far.ensures.value)))
      | in_default w ↦
          made_renamed {offers = OverReached c.args.root distance (take (i + 1) links)} w.self-is
          (unreached_more c.args.root distance links i l c.loop-link-test.true c.link-item.is (sym w.in_default.ensures.value) c.loop-link.invariant)
    ]
