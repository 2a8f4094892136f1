use Rattle.std.proofs.Common.{◌≡◌, ◌++◌, map, take}
use Rattle.event_state.proofs.affected.add_all.Given as goal

abbrev pub invariant-loop-key : goal.invariant-loop-key
invariant-loop-key l = l.named.items ≡ l.fn.named.items ++ map (λ key. (l.fn.scope, key)) (take l.key-index l.keys)
