use Rattle.std.proofs.Common.{sym, subst, List}
use Rattle.std.specs.Prelude.{Contains}
use Rattle.ospf_types.specs.declared.entry.Vertex.{Vertex}
use Rattle.vertex_graph.proofs.Gathered.{given_from, given}
use Rattle.spf.proofs.SortedOnce.{strictly, same_vertices}
use Rattle.area_trees.specs.Areas.{vertex_of}
use Rattle.area_drawings.proofs.reached.list_vertices.Goals as goal

pub returns-clause-in_order : goal.returns-clause-in_order
returns-clause-in_order c = strictly c.in_ok-vertices.vertices.items c.sort_unstable.new.self.items c.dedup.new.self.items c.sort_unstable.ensures.permutation c.sort_unstable.ensures.sorted c.dedup.ensures.filtered

pub returns-clause-exact : goal.returns-clause-exact
returns-clause-exact c =
    let all = c.in_ok-vertices.vertices.items in
    let keys = c.args.keys.now in
    λ v.
    let same = same_vertices all c.sort_unstable.new.self.items c.dedup.new.self.items c.sort_unstable.ensures.permutation c.sort_unstable.ensures.sorted c.dedup.ensures.filtered v in (
      λ h. given_from vertex_of keys v (subst (λ (vs : List Vertex). Contains vs v) c.in_ok-vertices.ensures (same.0 h)),
      λ h. same.1 (subst (λ (vs : List Vertex). Contains vs v) (sym c.in_ok-vertices.ensures) (given vertex_of keys h.0 v h.1 h.2)),
    )
