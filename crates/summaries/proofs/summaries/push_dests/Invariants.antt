use Rattle.std.proofs.Common.{◌≡◌, ◌++◌, map, take}
use Rattle.summaries.proofs.summaries.push_dests.Given as goal

abbrev pub invariant-loop-due : goal.invariant-loop-due
invariant-loop-due l = l.dests.items ≡ l.fn.dests.items ++ map (λ due. due.dest) (take l.due-index l.list)
