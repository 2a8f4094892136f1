-- Vertices by their keys: they are in order where their keys are.
use Rattle.std.proofs.Common.{◌≡◌, ℕ, ◌-◌, ◌<◌, ◌≤◌, Bool, true, false, cond, nat_lt, ◌==◌, eqb, List, [], ◌∷◌, map, length, sym, ap, subst, ◌∙◌, inl, inr, arith}
use Rattle.std.specs.Prelude.{◌↔◌}
use Rattle.std.specs.declared.cmp.Ordering.TheVariants.{Less, Equal, Greater}
use Rattle.std.specs.Ordering.{nat_cmp}
use Rattle.std.specs.Cmp.{nat_cmp_total, unsigned_ties}
use Rattle.std.specs.List.{Contains, AllByRecursion, dedup}
use Rattle.std.specs.List.Retain.{IsFiltered, DiffersFromLast}
use Rattle.std.specs.List.Sorted.{IsSorted, IsStrictlySortedBy, IsPermutation}
use Rattle.std.proofs.lemmas.Bool.{cases_lt}
use Rattle.std.proofs.lemmas.Bool.Decides.{nat_tests}
use Rattle.std.proofs.lemmas.List.Filters.{dedup_is}
use Rattle.std.proofs.lemmas.List.Kept.{IsStrictlySortedBy-dedup, Contains-dedup_nat, Contains-from_dedup}
use Rattle.std.proofs.lemmas.List.Sorted.{Contains-permutation, IsPermutation-sym}
use Rattle.ospf_types.specs.declared.entry.Vertex.{Vertex}
use Rattle.ospf_types.specs.declared.entry.Vertex.TheVariants.{Router, Network}
use Rattle.ospf_types.specs.Vertices.{vertex_cmp}
use Rattle.ospf_types.proofs.Elements.{mapped_element, mapped_from}
use Rattle.vertex_queue.specs.Keys.{vertex_from}

-- ---- numbers that compare less

lt_true : (x y : ℕ) → x < y → nat_lt x y ≡ true
lt_true x y lt = grind (arith, nat_tests)

lt_false : (x y : ℕ) → y ≤ x → nat_lt x y ≡ false
lt_false x y le = grind (arith, nat_tests)

less_is : (x y : ℕ) → x < y → nat_cmp x y ≡ Less
less_is x y lt = ap (λ b. cond b Less (cond (x == y) Equal Greater)) (lt_true x y lt)

never_less : (b : Bool) → cond b Equal Greater ≡ Less → ⊥
never_less true is = cc
never_less false is = cc

less_from : (x y : ℕ) → nat_cmp x y ≡ Less → x < y
less_from x y is = elim (cases_lt x y) [
  | inl lt ↦ lt
  | inr le ↦ absurd (never_less (x == y) (sym (ap (λ b. cond b Less (cond (x == y) Equal Greater)) (lt_false x y le)) ∙ is))
]

module _ (first : ℕ) where
  pub router_at : (k : ℕ) → k < first → vertex_from first k ≡ Router k
  router_at k low = ap (λ b. cond b (Router k) (Network (k - first))) (lt_true k first low)

  pub network_at : (k : ℕ) → first ≤ k → vertex_from first k ≡ Network (k - first)
  network_at k high = ap (λ b. cond b (Router k) (Network (k - first))) (lt_false k first high)

  -- ---- vertices in the order of their keys

  less_at : (x y : ℕ) → nat_cmp x y ≡ Less → vertex_cmp (vertex_from first x) (vertex_from first y) ≡ Less
  less_at x y less =
      let lt : x < y = less_from x y less in
      elim (cases_lt x first) [
        | inl low ↦ elim (cases_lt y first) [
          | inl near ↦ (λ i. vertex_cmp (router_at x low i) (router_at y near i)) ∙ less
          | inr far ↦ (λ i. vertex_cmp (router_at x low i) (network_at y far i))
        ]
        | inr high ↦
            let far : first ≤ y = omega (arith, lt, high) in
            (λ i. vertex_cmp (network_at x high i) (network_at y far i)) ∙ less_is (x - first) (y - first) (omega (arith, lt, high))
      ]

  all_less : (x : ℕ) (ks : List ℕ) → AllByRecursion (λ y. nat_cmp x y ≡ Less) ks → AllByRecursion (λ w. vertex_cmp (vertex_from first x) w ≡ Less) (map (vertex_from first) ks)
  all_less x [] all = tt
  all_less x (k ∷ ks) all = (less_at x k all.0, all_less x ks all.1)

  pub strictly_at : (ks : List ℕ) → IsStrictlySortedBy nat_cmp ks → IsStrictlySortedBy vertex_cmp (map (vertex_from first) ks)
  unfolding IsStrictlySortedBy
  strictly_at [] sorted = tt
  strictly_at (k ∷ ks) sorted = (all_less k ks sorted.0, strictly_at ks sorted.1)

-- no vertex, or one, is in order
pub few_strictly : (vs : List Vertex) → length vs < 2 → IsStrictlySortedBy vertex_cmp vs
unfolding IsStrictlySortedBy
few_strictly [] few = tt
few_strictly (v ∷ []) few = (tt, tt)
few_strictly (v ∷ w ∷ vs) few = absurd (omega (arith, few))

-- ---- keys that were sorted, and of which each is kept once

module _ (keys sorted kept : List ℕ) (moved : IsPermutation keys sorted) (in_order : IsSorted nat_cmp sorted) (filtered : IsFiltered (DiffersFromLast eqb) [] sorted kept) where
  kept_is : kept ≡ dedup eqb sorted
  kept_is = dedup_is eqb sorted kept filtered

  pub keys_strictly : IsStrictlySortedBy nat_cmp kept
  keys_strictly = subst (IsStrictlySortedBy nat_cmp) (sym kept_is) (IsStrictlySortedBy-dedup nat_cmp_total unsigned_ties sorted in_order)

  pub key_was : (k : ℕ) → Contains kept k → Contains keys k
  key_was k there = Contains-permutation sorted keys k (IsPermutation-sym keys sorted moved) (Contains-from_dedup eqb sorted k (subst (λ (ks : List ℕ). Contains ks k) kept_is there))

  key_stays : (k : ℕ) → Contains keys k → Contains kept k
  key_stays k there = subst (λ (ks : List ℕ). Contains ks k) (sym kept_is) (Contains-dedup_nat sorted k (Contains-permutation keys sorted k moved there))

  -- the vertices of the keys are the same
  pub same_at : (at : ℕ → Vertex) (vs : List Vertex) → map at keys ≡ vs → (v : Vertex) → Contains (map at kept) v ↔ Contains vs v
  same_at at vs are v = (
    λ there.
        let w = mapped_from at kept v there in
        subst (λ (us : List Vertex). Contains us v) are (subst (λ (u : Vertex). Contains (map at keys) u) w.2 (mapped_element at keys w.0 (key_was w.0 w.1))),
    λ there.
        let w = mapped_from at keys v (subst (λ (us : List Vertex). Contains us v) (sym are) there) in
        subst (λ (u : Vertex). Contains (map at kept) u) w.2 (mapped_element at kept w.0 (key_stays w.0 w.1)),
  )
