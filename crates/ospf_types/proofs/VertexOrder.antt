-- The order of vertices is total, only equal vertices tie, and `==` tests what it does not tell
-- apart.
use Rattle.std.proofs.Common.{◌≡◌, ◌∙◌, ℕ, Bool, Decides, refl, sym, ap, arith}
use Rattle.std.specs.Ordering.{nat_cmp, eq_by_cmp}
use Rattle.std.specs.Cmp.{IsTotalOrder, eq_by_cmp_equiv, nat_cmp_total, unsigned_ties}
use Rattle.std.proofs.lemmas.Cmp.{on_total, then_total}
use Rattle.std.proofs.lemmas.Map.Lookups.{CmpEqualImpliesEq, exact_pairs, exact_unsigned}
use Rattle.std.proofs.lemmas.Map.Views.{tells_apart}
use Rattle.ospf_types.specs.declared.entry.Vertex.{Vertex}
use Rattle.ospf_types.specs.declared.entry.Vertex.TheVariants.{Router, Network}
use Rattle.ospf_types.specs.contracts.entry.VertexPartialEq.TheImpl as derived_equality
use Rattle.ospf_types.specs.Vertices.{vertex_rank, vertex_cmp}

pub vertex_total : IsTotalOrder vertex_cmp
vertex_total = then_total (on_total (λ v. (vertex_rank v).0) nat_cmp_total) (on_total (λ v. (vertex_rank v).1) nat_cmp_total)

-- vertices of one rank are one
same_vertex : (v w : Vertex) → (vertex_rank v).0 ≡ (vertex_rank w).0 → (vertex_rank v).1 ≡ (vertex_rank w).1 → v ≡ w
same_vertex (Router a) (Router b) kind number = ap Router number
same_vertex (Router a) (Network b) kind number = absurd (omega arith)
same_vertex (Network a) (Router b) kind number = absurd (omega arith)
same_vertex (Network a) (Network b) kind number = ap Network number

pub vertex_exact : CmpEqualImpliesEq vertex_cmp
vertex_exact v w h =
    let e = exact_pairs nat_cmp nat_cmp exact_unsigned exact_unsigned (vertex_rank v) (vertex_rank w) h in
    same_vertex v w (ap (λ (p : ℕ × ℕ). p.0) e) (ap (λ (p : ℕ × ℕ). p.1) e)

abbrev pub vertices_equal : Vertex → Vertex → Bool
vertices_equal = (derived_equality.eq-value).it

pub vertices_equal_is : (v w : Vertex) → vertices_equal v w ≡ eq_by_cmp vertex_cmp v w
vertices_equal_is (Router a) (Router b) = unsigned_ties a b
vertices_equal_is (Router a) (Network b) = refl
vertices_equal_is (Network a) (Router b) = refl
vertices_equal_is (Network a) (Network b) = unsigned_ties a b

pub vertices_order : vertices_equal ≡ eq_by_cmp vertex_cmp
vertices_order i v w = vertices_equal_is v w i

-- `==` decides whether the two are equal
pub vertices_decided : (v w : Vertex) → Decides (vertices_equal v w) (v ≡ w)
vertices_decided v w = (
  λ t. tells_apart vertex_exact v w (sym (vertices_equal_is v w) ∙ t),
  λ same. vertices_equal_is v w ∙ ap (λ (x : Vertex). eq_by_cmp vertex_cmp v x) (sym same) ∙ (eq_by_cmp_equiv vertex_total).refl v,
)
