-- The closure gives the network of each.
use Rattle.std.proofs.Common.{◌≡◌, IfOk, IfErr, length, rules, refl, sym, ap, subst, ◌∙◌}
use Rattle.std.proofs.lemmas.List.Sorted.{answers_always}
use Rattle.active_ranges.specs.Grouped.{IsNetworkAt, IsGapFor, RangeNetworksValue}
use Rattle.active_ranges.proofs.Placed.{AreInOrder, Entries, searched}
use Rattle.active_ranges.proofs.networks.RangeNetworks.place.Goals as goal

pub returns-clause-found : goal.returns-clause-found
returns-clause-found c =
    let r = c.binary_search_by_key.result in
    let list = c.as_slice-list.result.now in
    let kept : list ≡ c.args.self.now.entries = c.as_slice-list.ensures.value ∙ ap (λ (n : RangeNetworksValue). n.entries) c.self.view_is in
    let ordered = subst AreInOrder (sym c.as_slice-list.ensures.value) c.self.invariant in
    let by_network = c.binary_search_by_key.ensures.position (λ e. e.0) (answers_always _ _ _ (λ f a r g called. search rules)) in
    subst (λ (es : Entries). IfOk r (IsNetworkAt es c.args.network)) kept (searched list ordered c.args.network r c.binary_search_by_key.ensures.bound by_network).found

pub returns-clause-absent : goal.returns-clause-absent
returns-clause-absent c =
    let r = c.binary_search_by_key.result in
    let list = c.as_slice-list.result.now in
    let kept : list ≡ c.args.self.now.entries = c.as_slice-list.ensures.value ∙ ap (λ (n : RangeNetworksValue). n.entries) c.self.view_is in
    let ordered = subst AreInOrder (sym c.as_slice-list.ensures.value) c.self.invariant in
    let by_network = c.binary_search_by_key.ensures.position (λ e. e.0) (answers_always _ _ _ (λ f a r g called. search rules)) in
    subst (λ (es : Entries). IfErr r (IsGapFor es c.args.network)) kept (searched list ordered c.args.network r c.binary_search_by_key.ensures.bound by_network).absent

pub ends_before-requires : goal.ends_before-requires
ends_before-requires c = subst AreInOrder (sym c.as_slice-list.ensures.value) c.self.invariant

pub returns-then-ends_before-clause-absent : goal.returns-then-ends_before-clause-absent
returns-then-ends_before-clause-absent c =
    let list = c.as_slice-list.result.now in
    let kept : list ≡ c.args.self.now.entries = c.as_slice-list.ensures.value ∙ ap (λ (n : RangeNetworksValue). n.entries) c.self.view_is in
    subst (λ (es : Entries). IsGapFor es c.args.network (length list)) kept (c.if-ends_before.ensures refl)
