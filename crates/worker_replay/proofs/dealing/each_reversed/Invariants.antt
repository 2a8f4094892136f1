use Rattle.std.specs.Vec.Iter.{into_iter_items}
use Rattle.worker_replay.proofs.Turns.{Reversing}
use Rattle.worker_replay.proofs.dealing.each_reversed.Given as goal

abbrev pub invariant-loop-list : goal.invariant-loop-list
invariant-loop-list g l = Reversing (λ list. list.items) l.fn.lists.items (into_iter_items l.list-iterator) l.now.items
