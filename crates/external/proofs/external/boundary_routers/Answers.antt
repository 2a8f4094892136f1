-- Each that something leads to is kept in some area, or has an inter-area entry.
use Rattle.std.proofs.Common.{◌≡◌, ℕ, List, map, sym, ap, subst, ◌∙◌, inl, inr}
use Rattle.std.specs.Prelude.{IsSome}
use Rattle.std.specs.FinMap.{get}
use Rattle.std.specs.List.{Contains}
use Rattle.std.proofs.lemmas.List.Elements.{Contains-append_left, Contains-append_right}
use Rattle.ospf_types.specs.declared.key.Dest.{Dest}
use Rattle.ospf_types.specs.declared.key.Dest.TheVariants.{Router}
use Rattle.ospf_types.proofs.Elements.{mapped_element}
use Rattle.route_choice.proofs.Among.{routers_among}
use Rattle.intra.specs.Intras.{IsKeptIn}
use Rattle.external.specs.Inputs.{ExternalInputsValue}
use Rattle.external.proofs.OfferingRouters.{offering}
use Rattle.external.proofs.external.boundary_routers.Goals as goal

pub returns : goal.returns
returns c = λ r preference h offered.
    let kept = c.in_ok-routers.routers.items in
    let among = c.deref-2.result.now in
    let routers = c.extend_from_slice.new.self.items in
    let there : Contains routers r =
    subst (λ (rs : List ℕ). Contains rs r) (sym c.in_ok-extend_from_slice.ensures.items) (elim (offering c.args.inputs.now r preference h offered) [
      | inl reached ↦ Contains-append_left kept among r ((c.in_ok-routers.ensures.exact r).1 (subst (λ (v : ExternalInputsValue). IsKeptIn v.intra.areas r) (sym c.inputs.view_is) reached))
      | inr some ↦
          let listed = (c.in_ok-others.ensures.exact (Router r)).1 (subst (λ (v : ExternalInputsValue). IsSome (get v.inter.entries (Router r))) (sym c.inputs.view_is) some) in
          let found = subst (λ (rs : List ℕ). Contains rs r) (sym c.in_ok-routers_among.ensures) ((routers_among c.deref.result.now r).1 (subst (λ (ds : List Dest). Contains ds (Router r)) (sym c.deref.ensures.value) listed)) in
          Contains-append_right kept among r (subst (λ (rs : List ℕ). Contains rs r) (sym c.deref-2.ensures.value) found)
    ]) in
    let all : c.in_ok-dests.dests.items ≡ map Router routers = c.in_ok-dests.ensures ∙ ap (λ (rs : List ℕ). map Router rs) c.deref-3.ensures.value in
    subst (λ (ds : List Dest). Contains ds (Router r)) (sym all) (mapped_element Router routers r there)
