-- The next of each, and at the end all that is left of either.
use Rattle.std.proofs.Common.{inl, inr}
use Rattle.intra.proofs.IndexSteps.{alike_turn, alike_rest}
use Rattle.intra.proofs.area_index.name_differing.Goals as goal

pub loop-left-preserved : goal.loop-left-preserved
loop-left-preserved c =
    let so_far = c.loop-left.invariant in
    let both = c.in_ok-name_both.ensures in
    record {
      kept = λ p h. both.kept p (so_far.kept p h);
      alike = λ named on rest. so_far.alike named (λ p h. on p (both.kept p h))
          (alike_turn named c.loop-left.left.now c.loop-left.right.now c.one-item.result c.other-item.result c.in-len1-up.len_at_least c.in-len1-up-right.len_at_least c.one-item.is c.other-item.is
          (elim both.named [ inl same ↦ inl same | inr two ↦ inr (on _ two.0, on _ two.1) ]) rest);
    }

pub returns-clause-alike : goal.returns-clause-alike
returns-clause-alike c =
    let one = c.in_ok-push_prefixes.ensures in
    let other = c.in_ok-push_prefixes-2.ensures in
    c.loop-left.invariant.alike c.push_prefixes-2.new.prefixes.items (λ p h. other.kept p (one.kept p h))
    (alike_rest c.push_prefixes-2.new.prefixes.items c.loop-left.left.now c.loop-left.right.now (λ p metric h. other.kept p (one.offered p metric h)) (λ p metric h. other.offered p metric h))
