use Rattle.std.proofs.Common.{◌≡◌, ◌≤◌, ◌+◌, ◌++◌, List, length, vec_len, vec_capacity}
use Rattle.std.specs.Prelude.{Result}
use Rattle.std.specs.Vec.Iter.{into_iter_items}
use Rattle.event_core.specs.declared.reply.Reply.{Reply}
use Rattle.event_state.specs.declared.refusal.Refusal.{Refusal}
use Rattle.event_core.specs.Cores.{CoreValue, Runs}
use Rattle.event_core.proofs.core_state.Core.run.Given as goal

-- what the rest of the run gives completes the run
abbrev pub invariant-loop-event : goal.invariant-loop-event
invariant-loop-event l = record {
  rest : (replies : List (Result Reply Refusal)) (new : CoreValue) → Runs l.self (into_iter_items l.event-iterator) replies new → Runs l.fn.self l.fn.events.items (l.replies.items ++ replies) new;
  room : length l.fn.events.items ≤ vec_capacity l.replies;
  few : vec_len l.replies + length (into_iter_items l.event-iterator) ≡ length l.fn.events.items;
}
