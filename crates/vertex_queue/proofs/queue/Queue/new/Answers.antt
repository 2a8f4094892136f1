use Rattle.std.proofs.Common.{sym, subst}
use Rattle.std.specs.BinaryHeap.{heap_items}
use Rattle.vertex_queue.specs.Heaps.{AreQueue}
use Rattle.vertex_queue.specs.Queues.{Queue}
use Rattle.vertex_queue.proofs.HeapEntries.{nothing_waits}
use Rattle.vertex_queue.proofs.queue.Queue.new.Goals as goal

pub invariant_of-result : goal.invariant_of-result
invariant_of-result c =
    let hs = heap_items c.new-2.result in
    subst (λ (q : Queue). AreQueue q hs) (sym c.new.ensures) (nothing_waits hs c.new-2.ensures.heap_order)
