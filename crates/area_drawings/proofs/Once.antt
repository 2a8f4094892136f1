-- Lists in which no two have one vertex.
use Rattle.std.proofs.Common.{◌≡◌, ◌≢◌, inl, inr, ℕ, ◌<◌, Bool, Decides, List, [], ◌∷◌, length, take, get_or, map, sym, ap, subst, ◌∙◌, arith}
use Rattle.std.specs.List.{AllPairs, Contains}
use Rattle.std.specs.List.Sorted.{IsPermutation}
use Rattle.std.specs.Cmp.{eq_by_cmp_equiv}
use Rattle.std.specs.Ordering.{eq_by_cmp}
use Rattle.std.proofs.Math.Nat.{eq-or-lt_of_le}
use Rattle.std.proofs.lemmas.Bool.{cases_lt}
use Rattle.std.proofs.lemmas.List.{get_or-map, get_or-take, get_or_default, length-map, length-take}
use Rattle.std.proofs.lemmas.List.Sorted.{IsPermutation-map}
use Rattle.std.proofs.lemmas.Map.Keys.{IsDistinct-IsPermutation}
use Rattle.std.proofs.lemmas.Map.Made.{AllPairs-from_IsDistinct, IsDistinct-from_AllPairs}
use Rattle.ospf_types.specs.declared.entry.Vertex.{Vertex}
use Rattle.ospf_types.specs.Vertices.{vertex_cmp}
use Rattle.ospf_types.proofs.VertexOrder.{vertex_total, vertices_decided, vertices_order}

module _ {X : Type 0} (vertex : X → Vertex) where
  abbrev pub Once : List X → Type 0
  Once xs = AllPairs (λ x y. vertex x ≢ vertex y) xs

  apart_at : (xs : List X) (i j : ℕ) (x : X) → Once xs → i < j → j < length xs → vertex (get_or xs i x) ≡ vertex (get_or xs j x) → ⊥
  apart_at xs i j x once lt within same = once i j x lt within same

  -- those of one vertex are one
  pub one : (xs : List X) (x y : X) → Once xs → Contains xs x → Contains xs y → vertex x ≡ vertex y → x ≡ y
  one xs x y once (i, in_x, is_x) (j, in_y, is_y) same =
      let y_at : get_or xs j x ≡ y = get_or_default xs j x y in_y ∙ is_y in
      let alike : vertex (get_or xs i x) ≡ vertex (get_or xs j x) = ap vertex is_x ∙ same ∙ sym (ap vertex y_at) in
      elim (cases_lt i j) [
        | inl less ↦ absurd (apart_at xs i j x once less in_y alike)
        | inr most ↦ elim (eq-or-lt_of_le most) [
          | inl equal ↦ sym is_x ∙ ap (λ (k : ℕ). get_or xs k x) (sym equal) ∙ y_at
          | inr more ↦ absurd (apart_at xs j i x once more in_x (sym alike))
        ]
      ]

  -- none of those before has the vertex
  pub not_earlier : (xs : List X) (i : ℕ) (d x : X) → Once xs → i < length xs → Contains (take i xs) x → vertex x ≡ vertex (get_or xs i d) → ⊥
  not_earlier xs i d x once within (k, lt, is) same =
      let early : k < i = omega (arith, length-take i xs) in
      let there : get_or xs k x ≡ x = sym (get_or-take i xs k x early) ∙ is in
      apart_at xs k i x once early within (ap vertex there ∙ same ∙ ap vertex (get_or_default xs i d x within))

  vertices_apart : (xs : List X) → Once xs → AllPairs (λ v w. v ≢ w) (map vertex xs)
  vertices_apart [] once = λ i j d lt within. absurd (omega arith)
  vertices_apart (x ∷ xs) once = λ i j d lt within same.
      let long : j < length (x ∷ xs) = omega (arith, within, length-map (x ∷ xs) vertex) in
      let short : i < length (x ∷ xs) = omega arith in
      once i j x lt long (sym (get_or-map vertex (x ∷ xs) i x d short) ∙ same ∙ get_or-map vertex (x ∷ xs) j x d long)

  from_vertices_apart : (xs : List X) → AllPairs (λ v w. v ≢ w) (map vertex xs) → Once xs
  from_vertices_apart xs apart i j d lt within same =
      let short : i < length xs = omega arith in
      apart i j (vertex d) lt (omega (arith, length-map xs vertex)) (get_or-map vertex xs i d (vertex d) short ∙ same ∙ sym (get_or-map vertex xs j d (vertex d) within))

  decided : (v w : Vertex) → Decides (eq_by_cmp vertex_cmp v w) (v ≡ w)
  decided v w = subst (λ (E : Vertex → Vertex → Bool). Decides (E v w) (v ≡ w)) vertices_order (vertices_decided v w)

  -- in another order too
  pub once_moved : (xs ys : List X) → IsPermutation xs ys → Once xs → Once ys
  once_moved xs ys moved once =
      from_vertices_apart ys
      (AllPairs-from_IsDistinct decided (map vertex ys)
      (IsDistinct-IsPermutation (eq_by_cmp vertex_cmp) (eq_by_cmp_equiv vertex_total).symm (map vertex xs) (map vertex ys) (IsPermutation-map vertex xs ys moved)
      (IsDistinct-from_AllPairs decided (map vertex xs) (vertices_apart xs once))))
