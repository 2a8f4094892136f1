use Rattle.std.proofs.Common.{◌≡◌, List, Some, true, false, sym, subst, ◌∙◌}
use Rattle.std.proofs.lemmas.Result.{on_ok_weaker}
use Rattle.ospf_types.specs.Boundary.{class_of}
use Rattle.ospf_types.specs.declared.hop.NextHop.{NextHop}
use Rattle.external.specs.Choosing.{TakesHops, HopsOffer}
use Rattle.external.proofs.PreferredOffers.{preferred_at, takes_boundary, takes_no_boundary}
use Rattle.external.proofs.preferred.offer_reached.Goals as goal

pub returns-then-not-is_asbr : goal.returns-then-not-is_asbr
returns-then-not-is_asbr c =
    takes_no_boundary c.args.compat c.args.area c.args.reached.now (λ set. let e : true ≡ false = sym (c.is_asbr.ensures.1 set) ∙ c.if-not-is_asbr.true in cc) c.args.best.now

pub returns : goal.returns
returns c =
    let r = c.args.reached.now in
    let key : c.new-key.result ≡ preferred_at (class_of c.args.compat (Some c.args.area)) r.distance c.args.area = c.new-key.ensures ∙ (λ i. preferred_at (c.class_of.ensures i) (c.distance.ensures.value i) c.args.area) in
    on_ok_weaker c.offer_hops.result
    (λ takes. takes_boundary c.args.compat c.args.area r c.new-key.result key (c.is_asbr.ensures.0 c.if-not-is_asbr.false) c.args.best.now c.offer_hops.new.best
    (subst (λ (hops : List NextHop). TakesHops (HopsOffer hops c.new-key.result) c.args.best.now c.offer_hops.new.best) c.hops.ensures takes))
    c.offer_hops.ensures
