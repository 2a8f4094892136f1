use Rattle.std.proofs.Common.{rules}
use Rattle.std.specs.Ordering.{is_lt}
use Rattle.std.proofs.lemmas.List.Sorted.{answers_always}
use Rattle.ospf_types.proofs.Orders.{network_total}
use Rattle.ospf_types.specs.declared.config.Range.{Range}
use Rattle.ospf_types.specs.Network.{network_cmp}
use Rattle.recording.proofs.Ascending.{ascends}
use Rattle.recording.proofs.recording.ranges_ascend.Goals as goal

pub returns : goal.returns
returns c =
    ascends network_cmp network_total (λ (range : Range). range.prefix) _ _ (c.is_sorted_by.ensures.cases (λ (a b : Range). is_lt (network_cmp a.prefix b.prefix)) (answers_always _ _ _ (λ f a r g h. search rules)))
