use Rattle.std.proofs.Common.{◌∙◌, inl, inr}
use Rattle.intra.proofs.KeptSources.{not_before}
use Rattle.intra.proofs.IndexSteps.{come_more, come_end}
use Rattle.intra.proofs.area_index.AreaIndex.add_sources.Goals as goal

-- the vertex offers none of the offers that are left
pub add_source-requires : goal.add_source-requires
add_source-requires c = λ there.
    let offer = c.offer-item.result in
    let os = c.args.offers.now in
    elim ((c.loop-offer.invariant.1 c.args.vertex.now offer.prefix offer.metric).0 there) [
      | inl was ↦ c.requires.absent offer.prefix offer.metric was
      | inr before ↦ not_before os c.requires.each_once c.loop-offer.offer-index offer c.loop-offer-test.true c.offer-item.is before.1
    ]

pub loop-offer-preserved : goal.loop-offer-preserved
loop-offer-preserved c =
    let v = c.args.vertex.now in
    let os = c.args.offers.now in
    let i = c.loop-offer.offer-index in
    let offer = c.offer-item.result in
    let so_far = c.loop-offer.invariant in (
      c.in_ok-add_source.ensures.offered ∙ so_far.0,
      come_more v os i offer c.loop-offer-test.true c.offer-item.is c.args.self.now c.loop-offer.self c.add_source.new.self so_far.1 c.in_ok-add_source.ensures.come,
    )

pub returns-clause-come : goal.returns-clause-come
returns-clause-come c = come_end c.args.vertex.now c.args.offers.now c.loop-offer.offer-index c.loop-offer-test.false c.args.self.now c.loop-offer.self c.loop-offer.invariant.1
