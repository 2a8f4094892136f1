use Rattle.std.proofs.Common.{◌^◌, ℕ, List, map, sym, subst, ◌∙◌, ◌++◌}
use Rattle.std.specs.Prelude.{◌↔◌}
use Rattle.std.specs.List.{Contains}
use Rattle.std.specs.List.Sorted.{IsStrictlySortedBy}
use Rattle.std.proofs.lemmas.Result.{on_ok_weaker}
use Rattle.ospf_types.specs.declared.entry.Vertex.{Vertex}
use Rattle.ospf_types.specs.Vertices.{vertex_cmp}
use Rattle.vertex_queue.specs.Keys.{vertex_at}
use Rattle.vertex_queue.proofs.Keys.{strictly_at, keys_strictly, key_was, same_at}
use Rattle.vertex_queue.proofs.sorted_vertices.SortedVertices.list.Goals as goal

pub push_vertices-requires : goal.push_vertices-requires
push_vertices-requires c = λ k there.
    c.self.invariant k
    (key_was c.self.inside.keys.items c.sort_unstable.new.self.items c.dedup.new.self.items c.sort_unstable.ensures.permutation c.sort_unstable.ensures.sorted c.dedup.ensures.filtered k (subst (λ (ks : List ℕ). Contains ks k) c.as_slice.ensures.value there))

pub returns-clause-in_order : goal.returns-clause-in_order
returns-clause-in_order c =
    let kept = c.dedup.new.self.items in
    on_ok_weaker c.push_vertices.result
    (λ is. subst (λ (vs : List Vertex). IsStrictlySortedBy vertex_cmp vs) (sym (is ∙ (λ i. c.clear.ensures.items i ++ map vertex_at (c.as_slice.ensures.value i))))
    (strictly_at (2 ^ 32) kept (keys_strictly c.self.inside.keys.items c.sort_unstable.new.self.items kept c.sort_unstable.ensures.permutation c.sort_unstable.ensures.sorted c.dedup.ensures.filtered)))
    c.push_vertices.ensures

pub returns-clause-same : goal.returns-clause-same
returns-clause-same c =
    let kept = c.dedup.new.self.items in
    on_ok_weaker c.push_vertices.result
    (λ is v. subst (λ (vs : List Vertex). Contains vs v ↔ Contains c.args.self.now v) (sym (is ∙ (λ i. c.clear.ensures.items i ++ map vertex_at (c.as_slice.ensures.value i))))
    (same_at c.self.inside.keys.items c.sort_unstable.new.self.items kept c.sort_unstable.ensures.permutation c.sort_unstable.ensures.sorted c.dedup.ensures.filtered vertex_at c.args.self.now c.self.view_is v))
    c.push_vertices.ensures

pub invariant_of-self : goal.invariant_of-self
invariant_of-self c = λ k there. c.self.invariant k (key_was c.self.inside.keys.items c.sort_unstable.new.self.items c.dedup.new.self.items c.sort_unstable.ensures.permutation c.sort_unstable.ensures.sorted c.dedup.ensures.filtered k there)
