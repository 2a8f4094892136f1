use Rattle.std.proofs.Common.{◌+◌, take, sym, subst}
use Rattle.explanation.specs.Judging.{IsGreatestId}
use Rattle.explanation.proofs.Rivals.{more_id, same_id}
use Rattle.explanation.proofs.layers.Layers.greatest_id.Goals as goal
use Rattle.explanation.proofs.layers.Layers.greatest_id.Goals.{then-is_at, else-is_at}

pub loop-offer-preserved : goal.loop-offer-preserved
loop-offer-preserved c =
    let w = c.args.self in
    let e = c.args.entry.now in
    let offers = c.args.offers.now in
    let i = c.loop-offer.offer-index in
    elim c.if-is_at.branch [
      | then-is_at b ↦ subst (IsGreatestId w e (take (i + 1) offers)) (sym b.greatest-is)
          (more_id w e offers i c.offer-item.result c.loop-offer.greatest b.greater.result c.loop-offer-test.true c.offer-item.is c.loop-offer.invariant (c.is_at.ensures.0 b.if-is_at.true) b.greater.ensures)
      | else-is_at b ↦ subst (IsGreatestId w e (take (i + 1) offers)) (sym b.greatest-is)
          (same_id w e offers i c.offer-item.result c.loop-offer.greatest c.loop-offer-test.true c.offer-item.is c.loop-offer.invariant (λ at. absurd (let yes = c.is_at.ensures.1 at in let no = b.if-is_at.false in cc)))
    ]
