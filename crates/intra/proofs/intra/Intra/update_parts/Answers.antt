-- All that may differ followed.
use Rattle.std.proofs.Common.{◌++◌, ℕ, List, map, subst, sym, ap, ◌∙◌}
use Rattle.std.specs.Prelude.{◌↔◌}
use Rattle.std.specs.List.{Contains}
use Rattle.std.specs.List.Sorted.{IsStrictlySortedBy}
use Rattle.ospf_types.specs.declared.key.Dest.{Dest}
use Rattle.ospf_types.specs.declared.key.Dest.TheVariants.{Router}
use Rattle.intra.specs.Changes.{DiffersAt}
use Rattle.ospf_types.specs.Keys.{dest_cmp}
use Rattle.intra.specs.Intras.{AreAreaIntras, IntraValue, IsIntraOf}
use Rattle.intra.proofs.Updating.{updated, exactly, are_before, anew_from}
use Rattle.route_choice.proofs.Among.{dests_sorted}
use Rattle.intra.proofs.intra.Intra.update_parts.Goals as goal

pub follow-requires-clause-before : goal.follow-requires-clause-before
follow-requires-clause-before c =
    let b = c.requires.before in
    are_before c.args.inputs.now.root c.args.dirty.now.keys.items c.args.dirty.now.vertices.items b.0.areas c.args.inputs.now.areas c.args.self.now.areas
    (subst (λ (root : ℕ). AreAreaIntras root b.0.areas c.args.self.now.areas) (sym b.2.root) b.1.areas) b.2.areas

pub returns-clause-kept : goal.returns-clause-kept
returns-clause-kept c =
    let b = c.requires.before in
    let first = c.in_ok-named.ensures in
    let dirty = c.args.dirty.now in
    let old = c.args.self.now in
    let mid = c.follow.new.self in
    let new = c.update_entries.new.self in
    let prefixes = c.in_ok-named.named.prefixes.items in
    let dests = c.update_entries.new.dests.items in
    let anew = anew_from c.args.inputs.now old mid new c.as_slice.result.now prefixes dests c.as_slice.ensures.value first.entries first.spent c.in_ok-update_entries.ensures in
    subst (IsIntraOf c.args.inputs.now) (sym c.self.view_is) (updated dirty.keys.items dirty.vertices.items dirty.interfaces.items b.0 c.args.inputs.now old new mid.areas prefixes dests b.1 b.2 first.followed anew)

pub returns-clause-in_order : goal.returns-clause-in_order
returns-clause-in_order c =
    let routers = c.in_ok-named.named.routers.items in
    let anew = c.in_ok-update_entries.ensures.entries in
    let all = c.in_ok-add_routers.ensures ∙ (λ i. anew.reported_as i ++ map Router (c.as_slice-2.ensures.value i)) in
    subst (IsStrictlySortedBy dest_cmp) (sym all) (dests_sorted anew.differing routers anew.in_order c.in_ok-named.ensures.routers_in_order)

pub returns-clause-exact : goal.returns-clause-exact
returns-clause-exact c = λ d.
    let b = c.requires.before in
    let first = c.in_ok-named.ensures in
    let dirty = c.args.dirty.now in
    let old = c.args.self.now in
    let mid = c.follow.new.self in
    let new = c.update_entries.new.self in
    let prefixes = c.in_ok-named.named.prefixes.items in
    let routers = c.in_ok-named.named.routers.items in
    let dests = c.update_entries.new.dests.items in
    let anew = anew_from c.args.inputs.now old mid new c.as_slice.result.now prefixes dests c.as_slice.ensures.value first.entries first.spent c.in_ok-update_entries.ensures in
    let all = c.in_ok-add_routers.ensures ∙ ap (λ (rs : List ℕ). dests ++ map Router rs) c.as_slice-2.ensures.value in
    subst (λ (w : IntraValue). Contains c.add_routers.new.dests.items d ↔ DiffersAt old w d) (sym c.self.view_is) (subst (λ (ds : List Dest). Contains ds d ↔ DiffersAt old new d) (sym all)
    (exactly dirty.keys.items dirty.vertices.items dirty.interfaces.items b.0 c.args.inputs.now old new mid.areas prefixes dests b.1 b.2 first.followed anew routers first.routers d))
