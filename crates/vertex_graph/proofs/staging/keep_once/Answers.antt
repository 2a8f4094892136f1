use Rattle.std.proofs.Common.{◌≡◌, rules, sym, ◌∙◌}
use Rattle.std.specs.List.{dedup}
use Rattle.std.specs.List.Sorted.{IsSorted}
use Rattle.std.proofs.lemmas.Fn.{dedup_same}
use Rattle.std.proofs.lemmas.List.Sorted.{answers_always}
use Rattle.ospf_types.specs.declared.entry.Vertex.{Vertex}
use Rattle.ospf_types.specs.contracts.entry.VertexOrd.TheImpl as derived_order
use Rattle.ospf_types.proofs.VertexOrder.{vertices_equal}
use Rattle.graph_links.proofs.Apart.{apart_strict}
use Rattle.graph_links.proofs.EndOrders.{vertex_total}
use Rattle.vertex_graph.proofs.VerticesOnce.{strictly, same_vertices}
use Rattle.vertex_graph.proofs.staging.keep_once.Goals.{After-dedup_by_key}
use Rattle.vertex_graph.proofs.staging.keep_once.Goals as goal

in_order : (c : After-dedup_by_key) → IsSorted derived_order.ghosts.cmp c.sort_unstable_by_key.new.self.items
in_order c = c.sort_unstable_by_key.ensures.sorted (λ (v : Vertex). v) (answers_always _ _ _ (λ f a r g called. search rules))

each : (c : After-dedup_by_key) → c.dedup_by_key.new.self.items ≡ dedup vertices_equal c.sort_unstable_by_key.new.self.items
each c =
    dedup_same _ vertices_equal _
    (λ x y b f x_new y_new k.
    let one : (k.key ≡ k.first.shown.now) × ((k.between ≡ _) × (k.first.left.now ≡ k.first.shown.now)) = let called = k.first.called in search rules in
    let other : (k.other ≡ k.second.shown.now) × ((f ≡ k.between) × (k.second.left.now ≡ k.second.shown.now)) = let called = k.second.called in search rules in
    (k.compared ∙ (λ i. vertices_equal ((one.0 ∙ k.first.shows) i) ((other.0 ∙ k.second.shows) i)), other.1.0 ∙ one.1.0, sym k.first.leaves ∙ one.1.1 ∙ k.first.shows, sym k.second.leaves ∙ other.1.1 ∙ k.second.shows))
    c.sort_unstable_by_key.new.self.items c.dedup_by_key.new.self.items c.dedup_by_key.ensures.filtered

pub returns-clause-same : goal.returns-clause-same
returns-clause-same c = same_vertices c.args.touched.now.items c.sort_unstable_by_key.new.self.items c.dedup_by_key.new.self.items c.sort_unstable_by_key.ensures.permutation (in_order c) (each c)

pub returns-clause-once : goal.returns-clause-once
returns-clause-once c =
    apart_strict vertex_total c.dedup_by_key.new.self.items
    (strictly c.args.touched.now.items c.sort_unstable_by_key.new.self.items c.dedup_by_key.new.self.items c.sort_unstable_by_key.ensures.permutation (in_order c) (each c))
