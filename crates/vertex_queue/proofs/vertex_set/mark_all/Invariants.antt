use Rattle.std.proofs.Common.{take}
use Rattle.vertex_queue.specs.Marks.{AreMarked}
use Rattle.vertex_queue.proofs.vertex_set.mark_all.Given as goal

abbrev pub invariant-loop-index : goal.invariant-loop-index
invariant-loop-index l = AreMarked l.marks (take l.index l.list)
