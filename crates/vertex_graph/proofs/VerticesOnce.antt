-- Vertices that were sorted, and of which each is kept once.
use Rattle.std.proofs.Common.{◌≡◌, Bool, List, Ordering, refl, sym, ap, subst, ◌∙◌}
use Rattle.std.specs.Prelude.{◌↔◌}
use Rattle.std.specs.declared.cmp.Ordering.TheVariants.{Less, Equal, Greater}
use Rattle.std.specs.Ordering.{ordering_then, eq_by_cmp}
use Rattle.std.specs.Cmp.{eq_by_cmp_equiv}
use Rattle.std.specs.List.{Contains, dedup}
use Rattle.std.specs.List.Sorted.{IsSorted, IsStrictlySortedBy, IsPermutation}
use Rattle.std.proofs.lemmas.List.Kept.{IsStrictlySortedBy-dedup, Contains-dedup, Contains-from_dedup}
use Rattle.std.proofs.lemmas.List.Sorted.{Contains-permutation, IsPermutation-sym}
use Rattle.std.proofs.lemmas.Map.Views.{tells_apart}
use Rattle.ospf_types.specs.declared.entry.Vertex.{Vertex}
use Rattle.ospf_types.specs.declared.entry.Vertex.TheVariants.{Router, Network}
use Rattle.ospf_types.specs.contracts.entry.VertexOrd.TheImpl as derived_order
use Rattle.ospf_types.specs.Vertices.{vertex_cmp}
use Rattle.ospf_types.proofs.VertexOrder.{vertex_total, vertex_exact, vertices_equal, vertices_order}

-- what compares equal
then_equal : (o : Ordering) → o ≡ ordering_then o Equal
then_equal Less = refl
then_equal Equal = refl
then_equal Greater = refl

-- the derived order of vertices is the named one
order_at : (v w : Vertex) → derived_order.ghosts.cmp v w ≡ vertex_cmp v w
order_at (Router a) (Router b) = refl
order_at (Router a) (Network b) = refl
order_at (Network a) (Router b) = refl
order_at (Network a) (Network b) = refl

-- in any place
pub order_is : derived_order.ghosts.cmp ≡ vertex_cmp
order_is i v w = order_at v w i

module _ (all sorted kept : List Vertex) (moved : IsPermutation all sorted) (in_order : IsSorted derived_order.ghosts.cmp sorted) (each : kept ≡ dedup vertices_equal sorted) where
  -- what is kept
  kept_is : kept ≡ dedup (eq_by_cmp vertex_cmp) sorted
  kept_is = each ∙ ap (λ (same : Vertex → Vertex → Bool). dedup same sorted) vertices_order

  -- is ascending, without duplicates
  pub strictly : IsStrictlySortedBy vertex_cmp kept
  strictly = subst (IsStrictlySortedBy vertex_cmp) (sym kept_is) (IsStrictlySortedBy-dedup vertex_total (λ v w. refl) sorted (subst (λ (c : Vertex → Vertex → Ordering). IsSorted c sorted) order_is in_order))

  -- and has just what was there
  pub same_vertices : (v : Vertex) → Contains kept v ↔ Contains all v
  same_vertices v = (
    λ c. Contains-permutation sorted all v (IsPermutation-sym all sorted moved) (Contains-from_dedup (eq_by_cmp vertex_cmp) sorted v (subst (λ (vs : List Vertex). Contains vs v) kept_is c)),
    λ c. subst (λ (vs : List Vertex). Contains vs v) (sym kept_is) (Contains-dedup (eq_by_cmp_equiv vertex_total) (tells_apart vertex_exact) sorted v (Contains-permutation all sorted v moved c)),
  )
