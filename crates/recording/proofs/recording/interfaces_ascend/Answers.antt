use Rattle.std.proofs.Common.{ℕ, rules}
use Rattle.std.specs.Cmp.{nat_cmp_total}
use Rattle.std.specs.Ordering.{nat_cmp, is_lt}
use Rattle.std.proofs.lemmas.List.Sorted.{answers_always}
use Rattle.ospf_types.specs.declared.config.Interface.{Interface}
use Rattle.recording.proofs.Ascending.{ascends, lt_is}
use Rattle.recording.proofs.recording.interfaces_ascend.Goals as goal

pub returns : goal.returns
returns c =
    ascends nat_cmp nat_cmp_total (λ (x : ℕ × Interface). x.0) _ _ (c.is_sorted_by.ensures.cases (λ (x y : ℕ × Interface). is_lt (nat_cmp x.0 y.0)) (answers_always _ _ _ (λ f a r g h. search (rules, lt_is))))
