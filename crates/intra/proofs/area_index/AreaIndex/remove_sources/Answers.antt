use Rattle.std.proofs.Common.{◌∙◌}
use Rattle.intra.proofs.IndexSteps.{gone_more, gone_end}
use Rattle.intra.proofs.area_index.AreaIndex.remove_sources.Goals as goal

pub loop-offer-preserved : goal.loop-offer-preserved
loop-offer-preserved c =
    let v = c.args.vertex in
    let os = c.args.offers.now in
    let i = c.loop-offer.offer-index in
    let offer = c.offer-item.result in
    let so_far = c.loop-offer.invariant in (
      c.remove_source.ensures.offered ∙ so_far.0,
      gone_more v os i offer c.loop-offer-test.true c.offer-item.is c.args.self.now c.loop-offer.self c.remove_source.new.self so_far.1 c.remove_source.ensures.gone,
    )

pub returns-clause-gone : goal.returns-clause-gone
returns-clause-gone c = gone_end c.args.vertex c.args.offers.now c.loop-offer.offer-index c.loop-offer-test.false c.args.self.now c.loop-offer.self c.loop-offer.invariant.1
