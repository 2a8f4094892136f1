use Rattle.std.proofs.Common.{◌+◌, cond, is_some, Some, sym, ap, ◌∙◌}
use Rattle.std.specs.FinMap.{FinMap, insert, get, len}
use Rattle.ospf_types.specs.Vertices.{vertex_cmp}
use Rattle.vertex_map.specs.Values.{inner}
use Rattle.vertex_map.proofs.Values.{updated, value_is, len_inserted}
use Rattle.vertex_map.proofs.vertex_map.VertexMap.put.Goals as goal

abbrev after : goal.returns-clause-ok
after g c =
    c.settle.ensures.same
    ∙ updated c.self.inside.entries.entries c.insert_full.new.self.entries c.args.vertex (c.known_number-number.result, Some c.args.value) c.in_ok-index.ensures.updates.0
    ∙ ap (λ (m : FinMap vertex_cmp g.row.V.Denot). insert m c.args.vertex c.args.value) c.self.view_is

pub returns-clause-ok : goal.returns-clause-ok
returns-clause-ok g c = after g c

pub invariant_of-self-2 : goal.invariant_of-self-2
invariant_of-self-2 g c =
    let had = c.is_value.ensures ∙ ap is_some (ap inner c.in_ok-index.ensures.old ∙ value_is c.self.inside.entries.entries c.args.vertex
    ∙ ap (λ (m : FinMap vertex_cmp g.row.V.Denot). get m c.args.vertex) c.self.view_is) in
    c.counted-self-inside.ensures ∙ ap (λ n. cond c.is_value.result n (n + 1)) c.len-len.ensures.value
    ∙ sym (len_inserted c.args.self.now c.args.vertex c.args.value c.is_value.result had) ∙ ap (λ (m : FinMap vertex_cmp g.row.V.Denot). len m) (sym (after g c))
