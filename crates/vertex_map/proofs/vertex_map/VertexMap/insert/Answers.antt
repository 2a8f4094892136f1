use Rattle.std.proofs.Common.{ℕ, ◌+◌, cond, sym, ap, ◌∙◌}
use Rattle.std.specs.FinMap.{FinMap, insert, len}
use Rattle.ospf_types.specs.Vertices.{vertex_cmp}
use Rattle.vertex_map.specs.Values.{values_of}
use Rattle.vertex_map.proofs.Values.{len_inserted}
use Rattle.vertex_map.proofs.vertex_map.VertexMap.insert.Goals as goal

pub returns-in-Some-clause-ok : goal.returns-in-Some-clause-ok
returns-in-Some-clause-ok g c =
    c.write_at.ensures c.args.vertex.now c.in-Some.ensures.at ∙ ap (λ (m : FinMap vertex_cmp g.row.V.Denot). insert m c.args.vertex.now c.args.value) c.self.view_is

pub invariant_of-self : goal.invariant_of-self
invariant_of-self g c =
    let len_of : FinMap vertex_cmp g.row.V.Denot → ℕ = λ m. len m in
    let was = values_of c.self.inside.entries.entries in
    c.counted-self-inside.ensures ∙ ap (λ n. cond c.in-Some.had n (n + 1)) (c.len-len.ensures.value ∙ ap len_of (sym c.self.view_is))
    ∙ sym (len_inserted was c.args.vertex.now c.args.value c.in-Some.had c.in-Some.ensures.had) ∙ ap len_of (sym (c.write_at.ensures c.args.vertex.now c.in-Some.ensures.at))
