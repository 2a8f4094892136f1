use Rattle.std.proofs.Common.{◌-◌, ◌≤◌, true, false, sym, ap, subst, ◌∙◌}
use Rattle.std.specs.FinMap.{FinMap, len}
use Rattle.ospf_types.specs.Vertices.{vertex_cmp}
use Rattle.vertex_map.specs.Values.{values_of}
use Rattle.vertex_map.proofs.Values.{len_removed, len_least}
use Rattle.vertex_map.proofs.vertex_map.VertexMap.remove.Goals as goal

pub overflow_sub-self : goal.overflow_sub-self
overflow_sub-self g c =
    subst (λ n. 1 ≤ n) (sym c.self.invariant) (len_least (values_of c.self.inside.entries.entries) c.args.vertex.now (sym c.if-take.ensures.had))

pub invariant_of-self : goal.invariant_of-self
invariant_of-self g c =
    ap (λ n. n - 1) c.self.invariant ∙ sym (len_removed (values_of c.self.inside.entries.entries) c.args.vertex.now true c.if-take.ensures.had)
    ∙ ap (λ (m : FinMap vertex_cmp g.row.V.Denot). len m) (sym c.take.ensures.taken)

pub invariant_of-self-else-take : goal.invariant_of-self-else-take
invariant_of-self-else-take g c =
    c.self.invariant ∙ sym (len_removed (values_of c.self.inside.entries.entries) c.args.vertex.now false c.if-take.ensures.had)
    ∙ ap (λ (m : FinMap vertex_cmp g.row.V.Denot). len m) (sym c.take.ensures.taken)
