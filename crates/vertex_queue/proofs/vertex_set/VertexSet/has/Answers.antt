use Rattle.vertex_queue.proofs.Marking.{found_by_mark}
use Rattle.vertex_queue.proofs.vertex_set.VertexSet.has.Goals as goal

pub returns-then-list-gt16 : goal.returns-then-list-gt16
returns-then-list-gt16 c =
    let i = c.self.inside in
    found_by_mark i.marks c.as_slice-list.result.now i.list.items c.args.self.now c.args.vertex.now c.is_marked.result c.as_slice-list.ensures c.self.view_is c.if-list-gt16.true c.self.invariant.1 c.is_marked.ensures
