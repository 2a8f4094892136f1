use Rattle.std.proofs.Common.{sym, subst, ◌∙◌}
use Rattle.std.specs.BinaryHeap.{heap_items}
use Rattle.std.specs.FinMap.{get-remove, remove}
use Rattle.ospf_types.proofs.VertexOrder.{vertex_total}
use Rattle.vertex_queue.specs.Heaps.{AreQueue}
use Rattle.vertex_queue.specs.Queues.{Queue}
use Rattle.vertex_queue.proofs.HeapEntries.{taken}
use Rattle.vertex_queue.proofs.queue.Queue.take.Goals as goal

pub invariant_of-self-2 : goal.invariant_of-self-2
invariant_of-self-2 c =
    let q = c.self.inside.distances in
    let v = c.in_ok-vertex.vertex in
    let ks = heap_items c.pop_waiting.new.order in
    subst (λ (m : Queue). AreQueue m ks) (sym c.remove.ensures) (taken q (remove q v) v ks c.in_ok-vertex.ensures.others (get-remove vertex_total q v))
