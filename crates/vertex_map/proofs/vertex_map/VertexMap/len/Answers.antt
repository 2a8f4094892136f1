use Rattle.std.proofs.Common.{arith}
use Rattle.vertex_map.proofs.Values.{len_most}
use Rattle.vertex_map.proofs.vertex_map.VertexMap.len.Goals as goal

pub returns-clause-small : goal.returns-clause-small
returns-clause-small g c = omega (arith, c.self.invariant, len_most c.self.inside.entries.entries, c.len.ensures.len, c.len.ensures.small)
