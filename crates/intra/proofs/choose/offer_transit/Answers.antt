use Rattle.std.proofs.Common.{List, ap, subst, ◌∙◌}
use Rattle.std.proofs.lemmas.Result.{on_ok_weaker}
use Rattle.ospf_types.specs.declared.hop.NextHop.{NextHop}
use Rattle.ospf_types.specs.Intra.{AreaCost}
use Rattle.intra.specs.Inputs.{hops_at}
use Rattle.intra.specs.Choosing.{TakesPaths, AmongSources, HopsOffer, FindsNearest}
use Rattle.intra.proofs.Sourced.{takes_transit, takes_no_transit}
use Rattle.intra.proofs.choose.offer_transit.Goals as goal

pub returns-in-Some : goal.returns-in-Some
returns-in-Some c = λ sources p found.
    let a = c.args.area.now in
    let near = subst (FindsNearest (AmongSources sources) a p) c.in-Some.is found in
    on_ok_weaker c.offer_hops.result
    (λ takes. takes_transit a p (AmongSources sources) c.in-Some.network.id c.in-Some.network.distance c.args.best.now c.offer_hops.new.best near
    (subst (λ (hops : List NextHop). TakesPaths (HopsOffer hops (c.in-Some.network.distance, a.id)) c.args.best.now c.offer_hops.new.best) (c.hops.ensures ∙ ap (hops_at a) c.network_of.ensures)
    (subst (λ (k : AreaCost). TakesPaths (HopsOffer c.hops.result.now k) c.args.best.now c.offer_hops.new.best) c.cost_in-key.ensures takes)))
    c.offer_hops.ensures

pub returns-in-None : goal.returns-in-None
returns-in-None c = λ sources p found. takes_no_transit c.args.area.now p (AmongSources sources) c.args.best.now (subst (FindsNearest (AmongSources sources) c.args.area.now p) c.in-None.is found)
