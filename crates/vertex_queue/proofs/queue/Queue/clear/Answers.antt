use Rattle.std.proofs.Common.{sym, subst}
use Rattle.std.specs.BinaryHeap.{heap_items}
use Rattle.vertex_queue.specs.Heaps.{AreQueue}
use Rattle.vertex_queue.specs.Queues.{Queue}
use Rattle.vertex_queue.proofs.HeapEntries.{nothing_waits}
use Rattle.vertex_queue.proofs.queue.Queue.clear.Goals as goal

pub invariant_of-self : goal.invariant_of-self
invariant_of-self c =
    let hs = heap_items c.clear-2.new.self in
    subst (λ (q : Queue). AreQueue q hs) (sym c.clear.ensures) (nothing_waits hs c.clear-2.ensures.heap_order)
