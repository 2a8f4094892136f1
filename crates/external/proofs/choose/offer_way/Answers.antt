use Rattle.std.proofs.Common.{◌≡◌, List, subst, ◌∙◌}
use Rattle.std.proofs.lemmas.Result.{on_ok_weaker}
use Rattle.ospf_types.specs.declared.hop.NextHop.{NextHop}
use Rattle.external.specs.Choosing.{TakesPaths, PathsOffer}
use Rattle.external.specs.Offers.{preference_of}
use Rattle.external.proofs.ExternalOffers.{takes_over}
use Rattle.external.proofs.choose.offer_way.Goals as goal

pub returns : goal.returns
returns c =
    let w = c.args.way.now in
    let at : c.of-at.result ≡ preference_of c.args.route w.class w.cost = c.of-at.ensures ∙ (λ i. preference_of c.args.route (c.class.ensures i) (c.cost.ensures.value i)) in
    on_ok_weaker c.offer_hops.result
    (λ takes. takes_over c.args.router c.args.route w.class w.cost w.hops c.of-at.result at c.args.best.now c.offer_hops.new.best
    (subst (λ (hops : List NextHop). TakesPaths (PathsOffer hops c.args.router c.of-at.result) c.args.best.now c.offer_hops.new.best) c.hops.ensures takes))
    c.offer_hops.ensures
