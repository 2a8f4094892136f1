use Rattle.std.proofs.Common.{inr, ⊎_elim, subst, List, sym}
use Rattle.std.specs.Prelude.{◌↔◌}
use Rattle.std.specs.List.{Contains}
use Rattle.std.specs.FinMap as map
use Rattle.std.proofs.lemmas.Result.{on_ok_weaker}
use Rattle.ospf_types.proofs.Elements.{no_element}
use Rattle.ospf_types.specs.declared.key.Dest.TheVariants.{Net}
use Rattle.ospf_types.specs.declared.key.Key.{Key}
use Rattle.advertised_index.specs.Indexes.{IsInGroup}
use Rattle.advertised_index.specs.declared.index_key.IndexKey.TheVariants.{To}
use Rattle.external.proofs.ExternalOffers.{takes_keys}
use Rattle.external.proofs.choose.Choosing.offer_network.Goals as goal

pub returns : goal.returns
returns c =
    let all : (k : Key) → Contains c.as_slice.result.now k ↔ IsInGroup c.args.self.now.index.now (To (Net c.args.network)) k = (λ k.
    let pushed = c.in_ok-list_keys.ensures.exact k in (
      λ h. ⊎_elim
          (λ (old : Contains c.new-keys.result.items k). absurd (no_element k (subst (λ (ks : List Key). Contains ks k) c.new-keys.ensures.items old)))
          (λ (member : IsInGroup c.args.self.now.index.now (To (Net c.args.network)) k). member)
          (pushed.0 (subst (λ (ks : List Key). Contains ks k) c.as_slice.ensures.value h)),
      λ member. subst (λ (ks : List Key). Contains ks k) (sym c.as_slice.ensures.value) (pushed.1 (inr member)),
    )) in
    on_ok_weaker c.offer_keys.result
    (takes_keys c.args.self.now.index.now (map.from_entries c.args.self.now.preferred.now.entries) (map.from_entries c.args.self.now.forwards.now.entries) c.args.network c.as_slice.result.now all c.args.best.now c.offer_keys.new.best)
    c.offer_keys.ensures
