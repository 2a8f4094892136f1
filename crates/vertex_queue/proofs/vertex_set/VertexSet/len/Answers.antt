use Rattle.std.proofs.Common.{◌<◌, ◌^◌, length, arith}
use Rattle.vertex_queue.proofs.Marking.{few_found}
use Rattle.vertex_queue.proofs.vertex_set.VertexSet.len.Goals as goal

pub returns-clause-small : goal.returns-clause-small
returns-clause-small c =
    let i = c.self.inside in
    let few : length i.list.items < 2 ^ 63 = few_found i.marks i.list.items c.self.invariant.0 c.self.invariant.1 (omega (arith, c.len.ensures.value, c.len.ensures.small)) in
    omega (arith, few, c.len-2.ensures.value)
