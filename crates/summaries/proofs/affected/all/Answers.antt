-- Each part stays as the next ones are added.
use Rattle.std.proofs.Common.{◌≡◌, ◌++◌, List, ℕ, map, subst, refl, ap, ◌∙◌, inl, inr}
use Rattle.std.specs.Prelude.{◌↔◌, Contains, IsSome}
use Rattle.std.specs.FinMap.{get}
use Rattle.ospf_types.specs.declared.key.Dest.{Dest}
use Rattle.ospf_types.specs.declared.key.Dest.TheVariants.{Net, Router}
use Rattle.ospf_types.specs.declared.prefix.Prefix.{Prefix}
use Rattle.active_ranges.specs.Active.{IsActiveIn}
use Rattle.summaries.specs.Inputs.{SummaryInputsValue}
use Rattle.route_choice.proofs.Adding.{gains_mapped, gains_one}
use Rattle.summaries.proofs.Adding.{all_due}
use Rattle.summaries.proofs.affected.all.Goals as goal

pub returns : goal.returns
returns c =
    let v = c.args.inputs.now in
    let told = c.inputs.view_is in
    let first = c.in_ok-dests.dests.items in
    let second = c.add_networks.new.dests.items in
    let third = c.add_networks-2.new.dests.items in
    let fourth = c.add_routers.new.dests.items in
    let last = c.push.new.self.items in
    let networks = c.in_ok-networks.field-0.items in
    let prefixes = c.in_ok-prefixes.field-0.items in
    let routers = c.in_ok-routers.field-0.items in
    let default = Net c.default_network.result in
    let one = gains_mapped Net networks first second (c.in_ok-add_networks.ensures ∙ ap (λ (ps : List Prefix). first ++ map Net ps) c.deref.ensures.value) in
    let two = gains_mapped Net prefixes second third (c.in_ok-add_networks-2.ensures ∙ ap (λ (ps : List Prefix). second ++ map Net ps) c.deref-2.ensures.value) in
    let three = gains_mapped Router routers third fourth (c.in_ok-add_routers.ensures ∙ ap (λ (rs : List ℕ). third ++ map Router rs) c.deref-3.ensures.value) in
    let four = gains_one (λ (d : Dest). d ≡ default) fourth last default c.in_ok-push.ensures.items (λ d is. is) in
    let after_second : (d : Dest) → Contains second d → Contains last d = λ d there. four d (inl (three d (inl (two d (inl there))))) in
    all_due v last
    (λ d is. after_second d (one d (inl ((subst (λ (w : SummaryInputsValue). Contains first d ↔ IsSome (get w.inter.entries d)) told (c.in_ok-dests.ensures.exact d)).1 is))))
    (λ p is. after_second (Net p) (one (Net p) (inr (p, (subst (λ (w : SummaryInputsValue). Contains networks p ↔ IsSome (get w.intra.entries p)) told (c.in_ok-networks.ensures.exact p)).1 is, refl))))
    (λ p is. four (Net p) (inl (three (Net p) (inl (two (Net p) (inr (p, (subst (λ (w : SummaryInputsValue). Contains prefixes p ↔ IsActiveIn w.ranges p) told (c.in_ok-prefixes.ensures.exact p)).1 is, refl)))))))
    (λ r is. four (Router r) (inl (three (Router r) (inr (r, (subst (λ (w : SummaryInputsValue). Contains routers r ↔ IsSome (get w.external.preferred r)) told (c.in_ok-routers.ensures.exact r)).1 is, refl)))))
    (subst (λ (p : Prefix). Contains last (Net p)) c.default_network.ensures (four default (inr refl)))
