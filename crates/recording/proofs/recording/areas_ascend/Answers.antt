use Rattle.std.proofs.Common.{rules}
use Rattle.std.specs.Cmp.{nat_cmp_total}
use Rattle.std.specs.Ordering.{nat_cmp, is_lt}
use Rattle.std.proofs.lemmas.List.Sorted.{answers_always}
use Rattle.ospf_types.specs.declared.config.AreaConfig.{AreaConfig}
use Rattle.recording.proofs.Ascending.{ascends, lt_is}
use Rattle.recording.proofs.recording.areas_ascend.Goals as goal

pub returns : goal.returns
returns c =
    ascends nat_cmp nat_cmp_total (λ (a : AreaConfig). a.id) _ _ (c.is_sorted_by.ensures.cases (λ (a b : AreaConfig). is_lt (nat_cmp a.id b.id)) (answers_always _ _ _ (λ f a r g h. search (rules, lt_is))))
