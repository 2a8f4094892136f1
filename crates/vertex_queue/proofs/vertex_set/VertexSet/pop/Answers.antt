use Rattle.vertex_queue.proofs.Marking.{popped}
use Rattle.vertex_queue.proofs.vertex_set.VertexSet.pop.Goals as goal

pub invariant_of-self : goal.invariant_of-self
invariant_of-self c = popped c.self.inside.marks c.self.inside.list.items c.pop.new.self.items c.pop.result c.pop.ensures.items c.self.invariant
