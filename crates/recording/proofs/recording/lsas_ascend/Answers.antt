use Rattle.std.proofs.Common.{rules}
use Rattle.std.specs.Ordering.{is_lt}
use Rattle.std.proofs.lemmas.List.Sorted.{answers_always}
use Rattle.ospf_types.specs.declared.key.Scope.{Scope}
use Rattle.ospf_types.specs.Lsa.{Lsa}
use Rattle.recording.specs.Places.{lsa_place, place_cmp}
use Rattle.recording.proofs.Ascending.{ascends}
use Rattle.recording.proofs.BaseSteps.{place_total}
use Rattle.recording.proofs.recording.lsas_ascend.Goals as goal

pub returns : goal.returns
returns c =
    ascends place_cmp place_total lsa_place _ _ (c.is_sorted_by.ensures.cases (λ (x y : Scope × Lsa). is_lt (place_cmp (lsa_place x) (lsa_place y))) (answers_always _ _ _ (λ f a r g h. search rules)))
