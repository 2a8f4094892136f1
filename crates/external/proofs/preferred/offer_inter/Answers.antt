use Rattle.std.proofs.Common.{ℕ, List, ap, ◌∙◌, subst}
use Rattle.std.proofs.lemmas.Result.{on_ok_weaker}
use Rattle.ospf_types.specs.declared.hop.Path.{Path}
use Rattle.route_choice.specs.Takes.{OnlyOffer, OfferedBySome}
use Rattle.external.specs.Choosing.{TakesHops}
use Rattle.external.proofs.PreferredOffers.{preferred_at, takes_entry, takes_no_area}
use Rattle.external.proofs.preferred.offer_inter.Goals as goal

pub returns-in_default : goal.returns-in_default
returns-in_default c = takes_no_area c.args.compat c.args.entry.now c.in_default.is c.args.best.now

pub returns : goal.returns
returns c =
    on_ok_weaker c.offer_paths.result
    (λ takes. takes_entry c.args.compat c.args.entry.now c.in-Some.area c.in-Some.is c.new-key.result (c.new-key.ensures ∙ ap (λ (n : ℕ). preferred_at n c.args.entry.now.cost c.in-Some.area) c.class_of.ensures) c.args.best.now c.offer_paths.new.best
    (subst (λ (paths : List Path). TakesHops (OfferedBySome paths (λ (path : Path). OnlyOffer c.new-key.result path.hop)) c.args.best.now c.offer_paths.new.best) c.as_slice.ensures.value takes))
    c.offer_paths.ensures
