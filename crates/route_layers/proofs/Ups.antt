-- The interfaces of an area that are up, taken one by one from those that there are.
use Rattle.std.proofs.Common.{◌≡◌, ℕ, List, [], ◌∷◌, ◌++◌, refl, sym, ap, subst, ◌∙◌, ◌⊎◌, inl, inr, ⊎_elim}
use Rattle.std.specs.Prelude.{◌↔◌, IsTrue}
use Rattle.std.specs.List.{Contains}
use Rattle.std.proofs.lemmas.List.Elements.{Contains-append_left, Contains-append_right, Contains-push_cases}
use Rattle.ospf_types.specs.declared.config.Interface.{Interface}
use Rattle.ospf_types.proofs.Elements.{no_element, first_element, later_element, first_or_later}
use Rattle.vertex_graph.specs.Up.{Up}

-- one of these interfaces is this one, and it is up in the area
abbrev pub IsUpAmong : ℕ → List (ℕ × Interface) → Up → Type 0
IsUpAmong area list u = (i : Interface) × Contains list (u.id, i) × (i.area ≡ area) × IsTrue i.up × (i.address ≡ u.address)

-- these are those that are up in the area, but for what is left
abbrev pub AreTaken : ℕ → List (ℕ × Interface) → List Up → List (ℕ × Interface) → Type 0
AreTaken area all ups left = (u : Up) → (Contains ups u ⊎ IsUpAmong area left u) ↔ IsUpAmong area all u

abbrev pub up_of : ℕ × Interface → Up
up_of e = record { id = e.0; address = e.1.address }

module _ (area : ℕ) (all : List (ℕ × Interface)) where
  pub none_taken : AreTaken area all [] all
  none_taken u = (λ c. ⊎_elim (λ (n : Contains [] u). absurd (no_element u n)) (λ (w : IsUpAmong area all u). w) c, λ w. inr w)

  pub all_taken : (ups : List Up) (left : List (ℕ × Interface)) → left ≡ [] → AreTaken area all ups left → (u : Up) → Contains ups u ↔ IsUpAmong area all u
  all_taken ups left none are u = (
    λ c. (are u).0 (inl c),
    λ w. ⊎_elim (λ (c : Contains ups u). c) (λ (v : IsUpAmong area left u). absurd (no_element (u.id, v.0) (subst (λ list. Contains list (u.id, v.0)) none v.1))) ((are u).1 w),
  )

  -- what is up among the first and the others
  first_is : (e : ℕ × Interface) (more : List (ℕ × Interface)) (u : Up) → IsUpAmong area (e ∷ more) u → ((u ≡ up_of e) × (e.1.area ≡ area) × IsTrue e.1.up) ⊎ IsUpAmong area more u
  first_is e more u w =
      ⊎_elim
      (λ (is : (u.id, w.0) ≡ e).
      let id : u.id ≡ e.0 = ap (λ (x : ℕ × Interface). x.0) is in
      let same : w.0 ≡ e.1 = ap (λ (x : ℕ × Interface). x.1) is in
      let address : u.address ≡ e.1.address = sym w.4 ∙ ap (λ (i : Interface). i.address) same in
      inl (λ j. record { id = id j; address = address j }, subst (λ (i : Interface). i.area ≡ area) same w.2, subst (λ (i : Interface). IsTrue i.up) same w.3))
      (λ (later : Contains more (u.id, w.0)). inr (w.0, later, w.2, w.3, w.4))
      (first_or_later e (u.id, w.0) more w.1)

  module _ (ups : List Up) (left more : List (ℕ × Interface)) (e : ℕ × Interface) (is : left ≡ e ∷ more) (are : AreTaken area all ups left) where
    earlier : (u : Up) → IsUpAmong area more u → IsUpAmong area left u
    earlier u w = subst (λ list. IsUpAmong area list u) (sym is) (w.0, later_element e (u.id, w.0) more w.1, w.2, w.3, w.4)

    pub one_taken : e.1.area ≡ area → IsTrue e.1.up → AreTaken area all (ups ++ up_of e ∷ []) more
    one_taken here up u = (
      λ c. ⊎_elim
          (λ (taken : Contains (ups ++ up_of e ∷ []) u).
          ⊎_elim (λ (before : Contains ups u). (are u).0 (inl before))
          (λ (now : up_of e ≡ u). (are u).0 (inr (subst (λ list. IsUpAmong area list u) (sym is) (subst (λ (x : Up). IsUpAmong area (e ∷ more) x) now (e.1, first_element e more, here, up, refl)))))
          (Contains-push_cases ups (up_of e) u taken))
          (λ (later : IsUpAmong area more u). (are u).0 (inr (earlier u later))) c,
      λ w. ⊎_elim
          (λ (before : Contains ups u). inl (Contains-append_left ups (up_of e ∷ []) u before))
          (λ (among : IsUpAmong area left u).
          ⊎_elim (λ (one : (u ≡ up_of e) × (e.1.area ≡ area) × IsTrue e.1.up). inl (Contains-append_right ups (up_of e ∷ []) u (subst (Contains (up_of e ∷ [])) (sym one.0) (first_element (up_of e) []))))
          (λ (later : IsUpAmong area more u). inr later)
          (first_is e more u (subst (λ list. IsUpAmong area list u) is among)))
          ((are u).1 w),
    )

    pub one_skipped : (e.1.area ≡ area → IsTrue e.1.up → ⊥) → AreTaken area all ups more
    one_skipped not u = (
      λ c. ⊎_elim (λ (before : Contains ups u). (are u).0 (inl before)) (λ (later : IsUpAmong area more u). (are u).0 (inr (earlier u later))) c,
      λ w. ⊎_elim
          (λ (before : Contains ups u). inl before)
          (λ (among : IsUpAmong area left u).
          ⊎_elim (λ (one : (u ≡ up_of e) × (e.1.area ≡ area) × IsTrue e.1.up). absurd (not one.1 one.2))
          (λ (later : IsUpAmong area more u). inr later)
          (first_is e more u (subst (λ list. IsUpAmong area list u) is among)))
          ((are u).1 w),
    )
