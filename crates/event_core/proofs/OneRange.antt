-- A range that is set or dropped leaves each other range of the areas.
--   set_others, drop_others: in a list of ranges
--   one_range: in the areas
use Rattle.std.proofs.Common.{◌≡◌, ◌==◌, ℕ, Bool, true, false, cond, not, List, [], ◌∷◌, map, Option, Some, refl, sym, ap, subst, ◌∙◌, inl, inr}
use Rattle.std.specs.Prelude.{◌↔◌}
use Rattle.std.specs.List.{Contains}
use Rattle.std.specs.Ordering.{is_lt}
use Rattle.std.proofs.lemmas.Bool.{eqb-true}
use Rattle.ospf_types.specs.declared.config.AreaConfig.{AreaConfig}
use Rattle.ospf_types.specs.declared.config.Range.{Range}
use Rattle.ospf_types.specs.declared.prefix.Prefix.{Prefix}
use Rattle.ospf_types.specs.Network.{network_cmp}
use Rattle.ospf_types.specs.RangeChanges.{is_same_prefix, has_range, in_place, in_order, set_range, drop_range, with_others, with_ranges}
use Rattle.ospf_types.proofs.Elements.{no_element, first_element, later_element, first_or_later, mapped_element, mapped_from}
use Rattle.ospf_types.proofs.KeyOrders.{prefixes_decided}
use Rattle.calculation.specs.Active.{RangesDifferAt}

-- what one of two is, where both have a property
one_of : {A : Type 0} (b : Bool) (x y : A) (P : A → Type 0) → (b ≡ true → P x) → (b ≡ false → P y) → P (cond b x y)
one_of true x y P first second = first refl
one_of false x y P first second = second refl

same_prefix : (p q : Prefix) → is_same_prefix p q ≡ true → p ≡ q
same_prefix p q is = (prefixes_decided p q).0 is

-- ---- a range that is set

module _ (own r : Range) (other : own.prefix ≡ r.prefix → ⊥) where
  placed_other : in_place own r ≡ r
  placed_other = one_of (is_same_prefix own.prefix r.prefix) own r (λ (x : Range). x ≡ r) (λ is. absurd (other (same_prefix own.prefix r.prefix is))) (λ is. refl)

  placed_from : (x : Range) → in_place own x ≡ r → x ≡ r
  placed_from x = one_of (is_same_prefix own.prefix x.prefix) own x (λ (y : Range). y ≡ r → x ≡ r) (λ is e. absurd (other (ap (λ (y : Range). y.prefix) e))) (λ is e. e)

  in_order_others : (ranges : List Range) → Contains (in_order own ranges) r ↔ Contains ranges r
  in_order_others [] = (
    λ c. elim (first_or_later own r [] c) [ inl e ↦ absurd (other (ap (λ (y : Range). y.prefix) (sym e))) | inr later ↦ later ],
    λ c. absurd (no_element r c),
  )
  in_order_others (x ∷ ranges) =
      let rest = in_order_others ranges in
      one_of (is_lt (network_cmp own.prefix x.prefix)) (own ∷ x ∷ ranges) (x ∷ in_order own ranges) (λ (list : List Range). Contains list r ↔ Contains (x ∷ ranges) r)
      (λ is. (
        λ c. elim (first_or_later own r (x ∷ ranges) c) [ inl e ↦ absurd (other (ap (λ (y : Range). y.prefix) (sym e))) | inr later ↦ later ],
        λ c. later_element own r (x ∷ ranges) c,
      ))
      (λ is. (
        λ c. elim (first_or_later x r (in_order own ranges) c) [
          | inl e ↦ subst (λ (y : Range). Contains (x ∷ ranges) y) (sym e) (first_element x ranges)
          | inr later ↦ later_element x r ranges (rest.0 later)
        ],
        λ c. elim (first_or_later x r ranges c) [
          | inl e ↦ subst (λ (y : Range). Contains (x ∷ in_order own ranges) y) (sym e) (first_element x (in_order own ranges))
          | inr later ↦ later_element x r (in_order own ranges) (rest.1 later)
        ],
      ))

  pub set_others : (ranges : List Range) → Contains (set_range own ranges) r ↔ Contains ranges r
  set_others ranges =
      one_of (has_range own.prefix ranges) (map (in_place own) ranges) (in_order own ranges) (λ (list : List Range). Contains list r ↔ Contains ranges r)
      (λ is. (
        λ c. let w = mapped_from (in_place own) ranges r c in subst (λ (y : Range). Contains ranges y) (placed_from w.0 w.2) w.1,
        λ c. subst (λ (y : Range). Contains (map (in_place own) ranges) y) placed_other (mapped_element (in_place own) ranges r c),
      ))
      (λ is. in_order_others ranges)

-- ---- a range that is dropped

pub drop_others : (prefix : Prefix) (r : Range) → (prefix ≡ r.prefix → ⊥) → (ranges : List Range) → Contains (drop_range prefix ranges) r ↔ Contains ranges r
drop_others prefix r other [] = (λ c. c, λ c. c)
drop_others prefix r other (x ∷ ranges) =
    let rest = drop_others prefix r other ranges in
    let kept = drop_range prefix ranges in
    one_of (not (is_same_prefix prefix x.prefix)) (x ∷ kept) kept (λ (list : List Range). Contains list r ↔ Contains (x ∷ ranges) r)
    (λ is. (
      λ c. elim (first_or_later x r kept c) [
        | inl e ↦ subst (λ (y : Range). Contains (x ∷ ranges) y) (sym e) (first_element x ranges)
        | inr later ↦ later_element x r ranges (rest.0 later)
      ],
      λ c. elim (first_or_later x r ranges c) [
        | inl e ↦ subst (λ (y : Range). Contains (x ∷ kept) y) (sym e) (first_element x kept)
        | inr later ↦ later_element x r kept (rest.1 later)
      ],
    ))
    (λ is. (
      λ c. later_element x r ranges (rest.0 c),
      λ c. elim (first_or_later x r ranges c) [
        | inl e ↦ absurd (other (same_prefix prefix x.prefix (so (is_same_prefix prefix x.prefix) is) ∙ ap (λ (y : Range). y.prefix) (sym e)))
        | inr later ↦ rest.1 later
      ],
    ))
  where
    so : (b : Bool) → not b ≡ false → b ≡ true
    so true is = refl
    so false is = absurd cc

-- ---- the areas

abbrev one : ℕ → Prefix → Option (ℕ × Prefix)
one area range = Some (area, range)

module _ (id : ℕ) (prefix : Prefix) (change : List Range → List Range) (others : (ranges : List Range) (r : Range) → (prefix ≡ r.prefix → ⊥) → Contains (change ranges) r ↔ Contains ranges r) where
  abbrev pub changed : AreaConfig → AreaConfig
  changed a = cond (a.id == id) (with_others a (change a.ranges)) a

  id_kept : (a : AreaConfig) → (changed a).id ≡ a.id
  id_kept a = one_of (a.id == id) (with_others a (change a.ranges)) a (λ (x : AreaConfig). x.id ≡ a.id) (λ is. refl) (λ is. refl)

  ranges_kept : (a : AreaConfig) (r : Range) → (one id prefix ≡ one a.id r.prefix → ⊥) → Contains (changed a).ranges r ↔ Contains a.ranges r
  ranges_kept a r other =
      one_of (a.id == id) (with_others a (change a.ranges)) a (λ (x : AreaConfig). Contains x.ranges r ↔ Contains a.ranges r)
      (λ is. let same : a.id ≡ id = eqb-true a.id id is in others a.ranges r (λ e. other (λ i. one (sym same i) (e i))))
      (λ is. (λ c. c, λ c. c))

  pub one_range_of : (areas : List AreaConfig) → RangesDifferAt (Some (id, prefix)) areas (map changed areas)
  one_range_of areas area r other =
      let apart : (a : AreaConfig) → a.id ≡ area → one id prefix ≡ one a.id r.prefix → ⊥ = λ a there e. other (e ∙ ap (λ (n : ℕ). one n r.prefix) there) in (
        λ w.
            let from = mapped_from changed areas w.0 w.1 in
            let a : AreaConfig = from.0 in
            let there : a.id ≡ area = sym (id_kept a) ∙ ap (λ (x : AreaConfig). x.id) from.2 ∙ w.2 in
            (a, from.1, there, (ranges_kept a r (apart a there)).0 (subst (λ (x : AreaConfig). Contains x.ranges r) (sym from.2) w.3)),
        λ w.
            let a : AreaConfig = w.0 in
            (changed a, mapped_element changed areas a w.1, id_kept a ∙ w.2, (ranges_kept a r (apart a w.2)).1 w.3),
      )

pub one_range : (areas : List AreaConfig) (id : ℕ) (prefix : Prefix) (change : List Range → List Range) → ((ranges : List Range) (r : Range) → (prefix ≡ r.prefix → ⊥) → Contains (change ranges) r ↔ Contains ranges r)
    → RangesDifferAt (Some (id, prefix)) areas (with_ranges areas id change)
one_range areas id prefix change others area r other = one_range_of id prefix change others areas area r other
