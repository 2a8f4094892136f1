use Rattle.std.proofs.Common.{ℕ}
use Rattle.std.specs.Ordering.{nat_cmp}
use Rattle.ospf_types.specs.declared.config.Interface.{Interface}
use Rattle.event_state.specs.BaseFaults.{is_same_id}
use Rattle.event_state.proofs.Doubles.{IsSeen, id_is}
use Rattle.event_state.proofs.base_checks.has_doubled_id.Given as goal

abbrev pub invariant-loop-id : goal.invariant-loop-id
invariant-loop-id l = IsSeen nat_cmp (λ (x : ℕ × Interface). x.0) is_same_id id_is l.interfaces l.id-index l.ids
