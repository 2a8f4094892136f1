use Rattle.std.proofs.Common.{refl}
use Rattle.vertex_queue.proofs.VertexSets.{member_pushed}
use Rattle.vertex_queue.proofs.vertex_set.VertexSet.add.Goals as goal

pub returns-clause-added : goal.returns-clause-added
returns-clause-added c = member_pushed c.args.self.now c.args.self.now c.push.new.self c.args.vertex.now refl c.in_ok-push.ensures.pushed
