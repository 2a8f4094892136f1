use Rattle.std.specs.BinaryHeap.{heap_items, heap_len}
use Rattle.vertex_queue.specs.Heaps.{AreQueue}
use Rattle.vertex_queue.proofs.queue.pop_waiting.Given as goal

abbrev pub invariant-loop-first : goal.invariant-loop-first
invariant-loop-first l = AreQueue l.distances (heap_items l.order)

abbrev pub decreases-loop-first : goal.decreases-loop-first
decreases-loop-first l = heap_len l.order
