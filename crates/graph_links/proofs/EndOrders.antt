-- The order of ends is total, only equal ends tie, and it is the one that is derived.
use Rattle.std.proofs.Common.{◌≡◌, ℕ, refl, ap, Ordering, arith}
use Rattle.std.specs.Prelude.{◌==◌, ◌&&◌}
use Rattle.std.specs.Ordering.{nat_cmp, is_eq, ordering_then, eq_by_cmp}
use Rattle.std.specs.Cmp.{IsTotalOrder, nat_cmp_total, both_tied, unsigned_ties}
use Rattle.std.proofs.lemmas.Cmp.{on_total, then_total}
use Rattle.std.proofs.lemmas.Map.Lookups.{CmpEqualImpliesEq, exact_pairs, exact_unsigned}
use Rattle.ospf_types.specs.declared.entry.Vertex.{Vertex}
use Rattle.ospf_types.specs.declared.entry.Vertex.TheVariants.{Router, Network}
use Rattle.ospf_types.specs.contracts.entry.VertexOrd.TheImpl as vertex_order
use Rattle.ospf_types.specs.contracts.entry.VertexPartialEq.TheImpl as vertex_equality
use Rattle.ospf_types.specs.Vertices.{vertex_rank, vertex_cmp}
use Rattle.graph_links.specs.declared.link_end.LinkEnd.{LinkEnd}
use Rattle.graph_links.specs.contracts.link_end.LinkEndOrd.TheImpl as end_order
use Rattle.graph_links.specs.contracts.link_end.LinkEndPartialEq.TheImpl as end_equality
use Rattle.graph_links.specs.EndOrder.{end_cmp}

pub vertex_total : IsTotalOrder vertex_cmp
vertex_total = then_total (on_total (λ v. (vertex_rank v).0) nat_cmp_total) (on_total (λ v. (vertex_rank v).1) nat_cmp_total)

-- vertices of one rank are one
same_vertex : (v w : Vertex) → (vertex_rank v).0 ≡ (vertex_rank w).0 → (vertex_rank v).1 ≡ (vertex_rank w).1 → v ≡ w
same_vertex (Router r) (Router s) kind number = ap Router number
same_vertex (Router r) (Network n) kind number = absurd (omega arith)
same_vertex (Network n) (Router r) kind number = absurd (omega arith)
same_vertex (Network n) (Network m) kind number = ap Network number

pub vertex_exact : CmpEqualImpliesEq vertex_cmp
vertex_exact v w h =
    let e = exact_pairs nat_cmp nat_cmp exact_unsigned exact_unsigned (vertex_rank v) (vertex_rank w) h in
    same_vertex v w (ap (λ (p : ℕ × ℕ). p.0) e) (ap (λ (p : ℕ × ℕ). p.1) e)

pub end_total : IsTotalOrder end_cmp
end_total = then_total (on_total (λ e. e.to) vertex_total) (then_total (on_total (λ e. e.detail) nat_cmp_total) (on_total (λ e. e.metric) nat_cmp_total))

pub end_exact : CmpEqualImpliesEq end_cmp
end_exact a b h =
    ap (λ (p : Vertex × (ℕ × ℕ)). let e : LinkEnd = record { to = p.0; detail = p.1.0; metric = p.1.1 } in e)
    (exact_pairs vertex_cmp (λ (x y : ℕ × ℕ). ordering_then (nat_cmp x.0 y.0) (nat_cmp x.1 y.1)) vertex_exact (exact_pairs nat_cmp nat_cmp exact_unsigned exact_unsigned) (a.to, (a.detail, a.metric)) (b.to, (b.detail, b.metric)) h)

-- the derived order of vertices is the one that the definitions state
vertex_cmp_at : (v w : Vertex) → vertex_order.ghosts.cmp v w ≡ vertex_cmp v w
vertex_cmp_at (Router r) (Router s) = refl
vertex_cmp_at (Router r) (Network n) = refl
vertex_cmp_at (Network n) (Router r) = refl
vertex_cmp_at (Network n) (Network m) = refl

end_cmp_at : (a b : LinkEnd) → end_order.ghosts.cmp a b ≡ end_cmp a b
end_cmp_at a b = ap (λ (o : Ordering). ordering_then o (ordering_then (nat_cmp a.detail b.detail) (nat_cmp a.metric b.metric))) (vertex_cmp_at a.to b.to)

-- the derived order of ends is the one that the definitions state
pub end_cmp_is : end_order.ghosts.cmp ≡ end_cmp
end_cmp_is = λ i a b. end_cmp_at a b i

-- vertices are equal by `==` where they tie
vertex_tied : (v w : Vertex) → (vertex_equality.eq-value).it v w ≡ is_eq (vertex_cmp v w)
vertex_tied (Router r) (Router s) = unsigned_ties r s
vertex_tied (Router r) (Network n) = refl
vertex_tied (Network n) (Router r) = refl
vertex_tied (Network n) (Network m) = unsigned_ties n m

-- ends are equal by `==` where they tie
pub end_tied : (a b : LinkEnd) → (end_equality.eq-value).it a b ≡ eq_by_cmp end_cmp a b
end_tied a b =
    both_tied ((vertex_equality.eq-value).it a.to b.to) ((a.detail == b.detail) && (a.metric == b.metric)) (vertex_cmp a.to b.to) (ordering_then (nat_cmp a.detail b.detail) (nat_cmp a.metric b.metric))
    (vertex_tied a.to b.to) (both_tied (a.detail == b.detail) (a.metric == b.metric) (nat_cmp a.detail b.detail) (nat_cmp a.metric b.metric) (unsigned_ties a.detail b.detail) (unsigned_ties a.metric b.metric))

-- the two equalities of ends are one
pub end_tied_is : (end_equality.eq-value).it ≡ eq_by_cmp end_cmp
end_tied_is = λ i a b. end_tied a b i
