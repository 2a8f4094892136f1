use Rattle.std.proofs.Common.{◌≡◌, length, map, reverse}
use Rattle.worker_replay.proofs.Turns.{Dealing}
use Rattle.worker_replay.proofs.dealing.deal.Given as goal

abbrev pub invariant-loop-event : goal.invariant-loop-event
invariant-loop-event l = record { dealing : Dealing l.fn.events.items l.events.items (map (λ list. reverse list.items) l.lists.items); count : length l.lists.items ≡ l.fn.count }

abbrev pub decreases-loop-event : goal.decreases-loop-event
decreases-loop-event l = length l.events.items
