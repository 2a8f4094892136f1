use Rattle.std.proofs.Common.{length}
use Rattle.worker_replay.proofs.Apart.{SetApart}
use Rattle.worker_replay.proofs.asking.set_all_apart.Given as goal

abbrev pub invariant-loop-line : goal.invariant-loop-line
invariant-loop-line l = SetApart l.fn.lines.items l.lines.items l.events.items l.asks.items l.rolls

abbrev pub decreases-loop-line : goal.decreases-loop-line
decreases-loop-line l = length l.lines.items
