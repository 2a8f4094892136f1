use Rattle.std.proofs.Common.{◌≡◌, length, refl, sym, subst, ◌∙◌}
use Rattle.std.specs.BinaryHeap.{heap_items}
use Rattle.vertex_queue.specs.Heaps.{AreQueue}
use Rattle.vertex_queue.specs.Queues.{Queue}
use Rattle.vertex_queue.proofs.QueueDistances.{no_items, none_in}
use Rattle.vertex_queue.proofs.HeapEntries.{dropped, first_of, nothing_waits, others, none_waits}
use Rattle.vertex_queue.proofs.queue.pop_waiting.Goals as goal

pub returns-then-is_empty-clause-none : goal.returns-then-is_empty-clause-none
returns-then-is_empty-clause-none c = none_in c.args.distances.now (c.if-is_empty.ensures.0 refl)

pub returns-then-is_empty-clause-none_kept : goal.returns-then-is_empty-clause-none_kept
returns-then-is_empty-clause-none_kept c =
    let hs = heap_items c.clear.new.self in
    subst (λ (q : Queue). AreQueue q hs) (sym (none_in c.args.distances.now (c.if-is_empty.ensures.0 refl))) (nothing_waits hs c.clear.ensures.heap_order)

pub returns-in-Some-waits-clause-first : goal.returns-in-Some-waits-clause-first
returns-in-Some-waits-clause-first c =
    let p = c.in-Some-waits.found in
    first_of c.args.distances.now (heap_items c.loop-first.order) c.in-Some.field-0.0 p.0 p.1 c.loop-first.invariant (c.in-Some.ensures.heap_order c.loop-first.invariant.in_order).1
    c.in-Some-waits.ensures.at c.in-Some-waits.ensures.waits

pub returns-in-Some-waits-clause-others : goal.returns-in-Some-waits-clause-others
returns-in-Some-waits-clause-others c =
    let p = c.in-Some-waits.found in
    others c.args.distances.now (heap_items c.loop-first.order) (heap_items c.pop.new.self) c.in-Some.field-0.0 p.0 p.1 c.loop-first.invariant
    c.in-Some.ensures.permutation (c.in-Some.ensures.heap_order c.loop-first.invariant.in_order).0 c.in-Some-waits.ensures.at

pub loop-first-preserved : goal.loop-first-preserved
loop-first-preserved c =
    dropped c.args.distances.now (heap_items c.loop-first.order) (heap_items c.pop.new.self) c.in-Some.field-0.0 c.loop-first.invariant
    c.in-Some.ensures.permutation (c.in-Some.ensures.heap_order c.loop-first.invariant.in_order).0 c.in_default-waits.ensures.none

pub returns-clause-none : goal.returns-clause-none
returns-clause-none c =
    let none : length (heap_items c.loop-first.order) ≡ 0 = sym c.loop-first.order.data.ok.0 ∙ c.in_default.ensures.none in
    none_waits c.args.distances.now (subst (AreQueue c.args.distances.now) (no_items (heap_items c.loop-first.order) none) c.loop-first.invariant)
