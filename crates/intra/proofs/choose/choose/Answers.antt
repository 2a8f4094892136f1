use Rattle.std.proofs.Common.{map, Some, None, sym}
use Rattle.intra.specs.Indexes.{IndexedOffers}
use Rattle.intra.proofs.Sourced.{chosen_from, entry_from}
use Rattle.intra.proofs.choose.choose.Goals as goal

pub entry-requires : goal.entry-requires
entry-requires c =
    let offers = IndexedOffers c.args.indexed.now.inputs.now (map (λ k. k.index) c.args.indexed.now.kept.now) c.args.indexed.now.inputs.now.areas c.args.prefix in
    (chosen_from offers c.new-best.result c.offer_areas.new.best (Some c.in-Some.choice) c.new-best.ensures (sym c.in-Some.ensures) c.in_ok-offer_areas.ensures).1

pub returns-in-Some : goal.returns-in-Some
returns-in-Some c =
    let offers = IndexedOffers c.args.indexed.now.inputs.now (map (λ k. k.index) c.args.indexed.now.kept.now) c.args.indexed.now.inputs.now.areas c.args.prefix in
    entry_from offers c.in-Some.choice c.entry.result c.entry.ensures
    (chosen_from offers c.new-best.result c.offer_areas.new.best (Some c.in-Some.choice) c.new-best.ensures (sym c.in-Some.ensures) c.in_ok-offer_areas.ensures)

pub returns-in-None : goal.returns-in-None
returns-in-None c =
    let offers = IndexedOffers c.args.indexed.now.inputs.now (map (λ k. k.index) c.args.indexed.now.kept.now) c.args.indexed.now.inputs.now.areas c.args.prefix in
    chosen_from offers c.new-best.result c.offer_areas.new.best None c.new-best.ensures (sym c.in-None.ensures) c.in_ok-offer_areas.ensures
