use Rattle.std.proofs.Common.{◌≡◌, true, sym, subst, ◌∙◌}
use Rattle.std.specs.List.Sorted.{IsStrictlySortedBy}
use Rattle.std.specs.Set.{sorted_merge}
use Rattle.ospf_types.specs.Hops.{hop_cmp}
use Rattle.ospf_types.proofs.Orders.{hop_total, hop_exact}
use Rattle.hop_sets.proofs.Unions.{HasBoth, merged_has_both, merged_in_order}
use Rattle.hop_sets.proofs.set.HopSet.unite.Goals as goal

pub invariant_of-self : goal.invariant_of-self
invariant_of-self c =
    let xs = c.args.self.now in
    let ys = c.args.other.now in
    let is : c.in_ok-self-inside.field-0.items ≡ sorted_merge hop_cmp true xs ys = c.in_ok-self-inside.ensures.both ∙ (λ i. sorted_merge hop_cmp true (c.as_slice.ensures.value i) (c.as_slice-2.ensures.value i)) in
    (subst (IsStrictlySortedBy hop_cmp) (sym is) (merged_in_order hop_total hop_exact xs ys c.as_slice.ensures.in_order c.as_slice-2.ensures.in_order), c.in_ok-self-inside.ensures.room)

pub returns-clause-united : goal.returns-clause-united
returns-clause-united c =
    let xs = c.args.self.now in
    let ys = c.args.other.now in
    let is : c.in_ok-self-inside.field-0.items ≡ sorted_merge hop_cmp true xs ys = c.in_ok-self-inside.ensures.both ∙ (λ i. sorted_merge hop_cmp true (c.as_slice.ensures.value i) (c.as_slice-2.ensures.value i)) in
    subst (HasBoth xs ys) (sym is) (merged_has_both hop_total hop_exact xs ys)
