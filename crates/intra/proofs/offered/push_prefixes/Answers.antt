-- Each offer's prefix is pushed.
use Rattle.std.proofs.Common.{List, ◌++◌, ◌∷◌, [], sym, subst, inl, inr}
use Rattle.std.specs.List.{Contains}
use Rattle.std.proofs.lemmas.List.{take_all}
use Rattle.std.proofs.lemmas.List.Elements.{Contains-append_left, Contains-push}
use Rattle.ospf_types.specs.declared.prefix.Prefix.{Prefix}
use Rattle.spf.proofs.OfSome.{contains_more}
use Rattle.intra.specs.declared.offered.OfferedPrefix.{OfferedPrefix}
use Rattle.intra.proofs.offered.push_prefixes.Goals as goal

pub loop-offer-preserved : goal.loop-offer-preserved
loop-offer-preserved c =
    let was = c.loop-offer.prefixes.items in
    let offer = c.offer-item.result in
    let there = λ (p : Prefix) (d : Contains (was ++ offer.prefix ∷ []) p). subst (λ (ps : List Prefix). Contains ps p) (sym c.in_ok-push.ensures.items) d in
    record {
      kept = λ p d. there p (Contains-append_left was (offer.prefix ∷ []) p (c.loop-offer.invariant.kept p d));
      offered = λ p metric d. there p (elim ((contains_more c.args.offers.now c.loop-offer.offer-index offer (record { prefix = p; metric = metric }) c.loop-offer-test.true c.offer-item.is).0 d) [
        | inl early ↦ Contains-append_left was (offer.prefix ∷ []) p (c.loop-offer.invariant.offered p metric early)
        | inr same ↦ subst (λ (o : OfferedPrefix). Contains (was ++ offer.prefix ∷ []) o.prefix) (sym same) (Contains-push was offer.prefix)
      ]);
    }

pub returns-clause-offered : goal.returns-clause-offered
returns-clause-offered c = λ p metric d. c.loop-offer.invariant.offered p metric (subst (λ (os : List OfferedPrefix). Contains os (record { prefix = p; metric = metric })) (sym (take_all c.loop-offer.offer-index c.args.offers.now c.loop-offer-test.false)) d)
