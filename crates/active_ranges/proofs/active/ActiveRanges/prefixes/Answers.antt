-- One range more.
use Rattle.std.proofs.Common.{◌≡◌, List, sym, subst, ◌∙◌}
use Rattle.std.specs.Prelude.{◌↔◌}
use Rattle.ospf_types.specs.declared.prefix.Prefix.{Prefix}
use Rattle.active_ranges.specs.Active.{ActiveValue, IsActiveIn}
use Rattle.active_ranges.specs.Grouped.{NetworksByRange}
use Rattle.active_ranges.proofs.Activity.{AreListed, HasOne, active_one, listed_none, listed_more, listed_all}
use Rattle.active_ranges.proofs.Grouped.{ranges_value}
use Rattle.active_ranges.proofs.active.ActiveRanges.prefixes.Goals as goal

pub loop-range-init : goal.loop-range-init
loop-range-init c =
    let all = c.into_iter-range-iterator.result in
    subst (λ (ps : List Prefix). AreListed all ps all) (sym c.new-prefixes.ensures.items) (listed_none all)

pub loop-range-preserved : goal.loop-range-preserved
loop-range-preserved c =
    let all = c.into_iter-range-iterator.result in
    let before = c.loop-range.prefixes.items in
    let so_far = subst (λ (rs : NetworksByRange). AreListed all before rs) c.in-Some.ensures.steps c.loop-range.invariant in
    listed_more all c.next.new.self c.in-Some.range.now c.in-Some.networks.now before c.push_active.new.prefixes.items so_far c.in_ok-push_active.ensures

pub returns-clause-exact : goal.returns-clause-exact
returns-clause-exact c = λ p.
    let all = c.into_iter-range-iterator.result in
    let tree = c.self.inside.ranges in
    let are : all ≡ tree.entries = c.into_iter-range-iterator.ensures.into_iter_gives ∙ c.iter-range-items.ensures.rest in
    let listed = c.loop-range.prefixes.items in
    let just = listed_all all listed c.loop-range.range-iterator c.in-None.ensures.steps.0 c.loop-range.invariant p in
    let one = active_one tree c.self.inside.spent c.iter-range-items.ensures.ordered p in
    let active = subst (λ (v : ActiveValue). IsActiveIn v p ↔ HasOne p all) c.self.view_is (subst (λ (rs : NetworksByRange). IsActiveIn (ranges_value tree.entries c.self.inside.spent) p ↔ HasOne p rs) (sym are) one) in
    let same = c.sorted_unique.ensures.same p in
    (λ there. active.1 (just.0 (same.0 there)), λ w. same.1 (just.1 (active.0 w)))
