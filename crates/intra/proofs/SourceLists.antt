-- The rest of a list after a filter, and the sources of a prefix without those of a vertex.
use Rattle.std.proofs.Common.{◌≡◌, ◌≢◌, ℕ, Bool, true, false, cond, not, List, [], ◌∷◌, refl, sym, ap, subst, ◌∙◌, ⊎_elim}
use Rattle.std.specs.Prelude.{◌↔◌}
use Rattle.std.specs.List.{Contains, filter}
use Rattle.std.specs.List.Retain.{RetainsInTurn}
use Rattle.std.proofs.lemmas.Bool.{true≢false}
use Rattle.ospf_types.specs.declared.entry.Vertex.{Vertex}
use Rattle.ospf_types.proofs.Elements.{no_element, first_element, later_element, first_or_later}
use Rattle.intra.specs.declared.area_index.PrefixSource.{PrefixSource}
use Rattle.ospf_types.proofs.VertexOrder.{vertices_equal, vertices_decided}

module _ {X : Type 0} (test : X → Bool) where
  kept_from : (xs : List X) (y : X) → Contains (filter test xs) y → Contains xs y × (test y ≡ true)
  kept_from [] y c = absurd (no_element y c)
  kept_from (x ∷ xs) y c =
      let later : Contains (filter test xs) y → Contains (x ∷ xs) y × (test y ≡ true) = λ h. let r = kept_from xs y h in (later_element x y xs r.0, r.1) in
      elim (test x) as (λ b. test x ≡ b → Contains (cond b (x ∷ filter test xs) (filter test xs)) y → Contains (x ∷ xs) y × (test y ≡ true)) [
        | true ↦ λ e h. ⊎_elim (λ (s : y ≡ x). (subst (Contains (x ∷ xs)) (sym s) (first_element x xs), ap test s ∙ e)) later (first_or_later x y (filter test xs) h)
        | false ↦ λ e h. later h
      ] refl c

  kept : (xs : List X) (y : X) → Contains xs y → test y ≡ true → Contains (filter test xs) y
  kept [] y c e = absurd (no_element y c)
  kept (x ∷ xs) y c e =
      ⊎_elim
      (λ (s : y ≡ x). subst (λ (b : Bool). Contains (cond b (x ∷ filter test xs) (filter test xs)) y) (sym (ap test (sym s) ∙ e)) (subst (Contains (x ∷ filter test xs)) (sym s) (first_element x (filter test xs))))
      (λ (h : Contains xs y). elim (test x) as (λ b. Contains (cond b (x ∷ filter test xs) (filter test xs)) y) [
        | true ↦ later_element x y (filter test xs) (kept xs y h e)
        | false ↦ kept xs y h e
      ])
      (first_or_later x y xs c)

-- where no call of the test changes it or the element, just what passes it stays
pub retained : {X F : Type 0} (R : F → X → Bool → F → X → Type 0) (test : X → Bool) (f : F)
    → ((x : X) (b : Bool) (g : F) (y : X) → R f x b g y → (b ≡ test x) × (g ≡ f) × (y ≡ x))
    → (xs ys : List X) → RetainsInTurn R f xs ys → ys ≡ filter test xs
retained R test f says [] ys h = h
retained R test f says (x ∷ xs) ys h =
    let said = says x h.0 h.1 h.2 h.3 in
    let rest = retained R test f says xs h.4 (subst (λ g. RetainsInTurn R g xs h.4) said.1 h.5) in
    h.6 ∙ (λ i. cond (said.0 i) (said.2 i ∷ rest i) (rest i))

-- the source is of another vertex
abbrev pub is_of_another : Vertex → PrefixSource → Bool
is_of_another v s = not (vertices_equal s.vertex v)

other_is : (b : Bool) → not b ≡ true → b ≡ true → ⊥
other_is true e t = true≢false (sym e)
other_is false e t = true≢false (sym t)

other_from : (b : Bool) → (b ≡ true → ⊥) → not b ≡ true
other_from true other = absurd (other refl)
other_from false other = refl

pub left_out : (v : Vertex) (xs ys : List PrefixSource) → ys ≡ filter (is_of_another v) xs → (w : Vertex) (metric : ℕ)
    → Contains ys (record { vertex = w; metric = metric }) ↔ (Contains xs (record { vertex = w; metric = metric }) × (w ≢ v))
left_out v xs ys is w metric =
    let s : PrefixSource = record { vertex = w; metric = metric } in (
      λ c. let k = kept_from (is_of_another v) xs s (subst (λ (zs : List PrefixSource). Contains zs s) is c) in
          (k.0, λ same. other_is (vertices_equal w v) k.1 ((vertices_decided w v).1 same)),
      λ c. subst (λ (zs : List PrefixSource). Contains zs s) (sym is) (kept (is_of_another v) xs s c.0 (other_from (vertices_equal w v) (λ t. c.1 ((vertices_decided w v).0 t)))),
    )
