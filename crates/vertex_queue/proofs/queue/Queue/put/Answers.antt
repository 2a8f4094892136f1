use Rattle.std.proofs.Common.{sym, subst}
use Rattle.std.specs.BinaryHeap.{heap_items}
use Rattle.std.specs.FinMap.{get-insert, insert}
use Rattle.ospf_types.proofs.VertexOrder.{vertex_total}
use Rattle.vertex_queue.specs.Heaps.{AreQueue}
use Rattle.vertex_queue.specs.Queues.{Queue}
use Rattle.vertex_queue.proofs.HeapEntries.{grown, held_at, put_there}
use Rattle.vertex_queue.proofs.queue.Queue.put.Goals as goal

pub invariant_of-self-in_err-insert : goal.invariant_of-self-in_err-insert
invariant_of-self-in_err-insert c =
    let i = c.self.inside in
    let ks = heap_items c.push.new.self in
    subst (λ (q : Queue). AreQueue q ks) (sym c.in_err-insert.ensures.err)
    (grown i.distances (heap_items i.order) ks (held_at c.new.result) c.self.invariant c.in_ok-push.ensures.permutation (c.in_ok-push.ensures.heap_order c.self.invariant.in_order))

pub invariant_of-self-2 : goal.invariant_of-self-2
invariant_of-self-2 c =
    let i = c.self.inside in
    let ks = heap_items c.push.new.self in
    let v = c.args.vertex.now in
    let d = c.args.distance in
    subst (λ (q : Queue). AreQueue q ks) (sym c.in_ok-insert.ensures.ok)
    (put_there i.distances (insert i.distances v d) (heap_items i.order) ks c.new.result v d c.self.invariant c.new.ensures c.in_ok-push.ensures.permutation
    (c.in_ok-push.ensures.heap_order c.self.invariant.in_order)
    (get-insert vertex_total i.distances v d))
