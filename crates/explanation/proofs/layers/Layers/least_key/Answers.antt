use Rattle.std.proofs.Common.{◌+◌, take, sym, subst}
use Rattle.explanation.specs.Judging.{IsLeastKey}
use Rattle.explanation.proofs.Rivals.{more_key, same_key}
use Rattle.explanation.proofs.layers.Layers.least_key.Goals as goal
use Rattle.explanation.proofs.layers.Layers.least_key.Goals.{in-Some, in_default}

pub loop-offer-preserved : goal.loop-offer-preserved
loop-offer-preserved c =
    let offers = c.args.offers.now in
    let i = c.loop-offer.offer-index in
    elim c.match-key_of.branch [
      | in-Some w ↦ subst (IsLeastKey c.args.self (take (i + 1) offers)) (sym w.least-is)
          (more_key c.args.self offers i c.offer-item.result c.loop-offer.least w.in-Some.key w.lesser.result c.loop-offer-test.true c.offer-item.is c.loop-offer.invariant w.in-Some.ensures.some w.lesser.ensures)
      | in_default w ↦ subst (IsLeastKey c.args.self (take (i + 1) offers)) (sym w.least-is)
          (same_key c.args.self offers i c.offer-item.result c.loop-offer.least c.loop-offer-test.true c.offer-item.is c.loop-offer.invariant w.in_default.ensures.none)
    ]
