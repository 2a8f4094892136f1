-- The configured areas are as defined: which one has an Area ID, its ranges, and which are active.
use Rattle.std.proofs.Common.{◌≡◌, ◌≢◌, ℕ, List, [], ◌∷◌, get_or, sym, ap, subst, ◌∙◌, inl, inr, arith}
use Rattle.std.specs.Prelude.{IsTrue}
use Rattle.std.specs.List.{All, Contains, AllPairs}
use Rattle.std.proofs.lemmas.Bool.{cases_lt, cases_eq}
use Rattle.std.proofs.lemmas.List.{get_or_default}
use Rattle.ospf_types.specs.declared.config.AreaConfig.{AreaConfig}
use Rattle.ospf_types.specs.declared.config.Range.{Range}
use Rattle.ospf_types.specs.declared.prefix.Prefix.{Prefix}
use Rattle.ospf_types.specs.Address.{Covers}
use Rattle.ospf_types.specs.Inputs.{Inputs, Area, IsActive, IsBorder}
use Rattle.active_ranges.specs.Right.{AreConfigured as AreRangesConfigured}
use Rattle.active_ranges.proofs.Right.{configured_as, configured_from}
use Rattle.summaries.specs.Giving.{IsOutsideRanges, IsRangeAdvertised, IsServed}
use Rattle.summaries.specs.Inputs.{SummaryInputsValue}
use Rattle.summaries.specs.Right.{AreConfigured, AreInputsOf}

-- where numbers differ pairwise, there is one element with a number
one_with : {X : Type 0} (number : X → ℕ) (xs : List X) → AllPairs (λ x y. number x ≢ number y) xs → (x y : X) → Contains xs x → Contains xs y → number x ≡ number y → x ≡ y
one_with {X} number xs apart x y c d same =
    let there : get_or xs d.0 x ≡ y = get_or_default xs d.0 x y d.1 ∙ d.2 in
    elim (cases_lt c.0 d.0) [
      | inl before ↦ absurd (apart c.0 d.0 x before d.1 (ap number c.2 ∙ same ∙ sym (ap number there)))
      | inr from ↦ elim (cases_lt d.0 c.0) [
        | inl after ↦ absurd (apart d.0 c.0 x after c.1 (ap number there ∙ sym same ∙ sym (ap number c.2)))
        | inr to ↦ let place : c.0 ≡ d.0 = omega (arith, from, to) in sym c.2 ∙ ap (λ n. get_or xs n x) place ∙ there
      ]
    ]

ranges_configured : (bs : List Area) (areas : List AreaConfig) → AreConfigured bs areas → AreRangesConfigured bs areas
ranges_configured [] [] are = tt
ranges_configured [] (a ∷ areas) are = absurd are
ranges_configured (b ∷ bs) [] are = absurd are
ranges_configured (b ∷ bs) (a ∷ areas) are = (are.0, are.2, ranges_configured bs areas are.3)

module _ (s : Inputs) (v : SummaryInputsValue) (are : AreInputsOf s v) where
  -- two areas with one Area ID are one
  pub one_area : (a b : Area) → Contains s.areas a → Contains s.areas b → a.id ≡ b.id → a ≡ b
  one_area = one_with (λ (x : Area). x.id) s.areas are.apart

  pub area_of : (x : AreaConfig) → Contains v.areas x → (b : Area) × Contains s.areas b × (b.id ≡ x.id) × (b.ranges ≡ x.ranges)
  area_of = configured_as s.areas v.areas (ranges_configured s.areas v.areas are.areas)

  pub config_of : (b : Area) → Contains s.areas b → (x : AreaConfig) × Contains v.areas x × (b.id ≡ x.id) × (b.ranges ≡ x.ranges)
  config_of = configured_from s.areas v.areas (ranges_configured s.areas v.areas are.areas)

  ranges_at : (b : Area) → Contains s.areas b → (x : AreaConfig) → Contains v.areas x → x.id ≡ b.id → x.ranges ≡ b.ranges
  ranges_at b here x there same =
      let w = area_of x there in
      sym w.3 ∙ ap (λ (a : Area). a.ranges) (one_area w.0 b w.1 here (w.2 ∙ same))

  -- ---- ranges

  module _ (b : Area) (here : Contains s.areas b) (p : Prefix) where
    abbrev Misses : Range → Type 0
    Misses r = Covers r.prefix p → ⊥

    pub outside_from : IsOutsideRanges v.areas b.id p → All (λ r. Covers r.prefix p → ⊥) b.ranges
    outside_from out = let w = config_of b here in subst (All Misses) (sym w.3) (out w.0 w.1 (sym w.2))

    pub outside_to : All (λ r. Covers r.prefix p → ⊥) b.ranges → IsOutsideRanges v.areas b.id p
    outside_to all x there same = subst (All Misses) (sym (ranges_at b here x there same)) all

    pub advertised_to : (r : Range) → Contains b.ranges r → r.prefix ≡ p → IsTrue r.advertise → IsRangeAdvertised v.areas b.id p
    advertised_to r in_area same told = let w = config_of b here in (w.0, r, w.1, sym w.2, subst (λ rs. Contains rs r) w.3 in_area, same, told)

  -- ---- active areas

  module _ (a : Area) (here : Contains s.areas a) where
    pub border_served : IsBorder s → IsActive s a → IsServed v.active a.id
    border_served border active = record {
      here = (are.active a.id).1 (a, active, λ _. a.id);
      other = elim (cases_eq border.0.id a.id) [
        | inl same ↦ (border.1.id, (are.active border.1.id).1 (border.1, border.3, λ _. border.1.id), λ e. border.4 (same ∙ sym e))
        | inr apart ↦ (border.0.id, (are.active border.0.id).1 (border.0, border.2, λ _. border.0.id), apart)
      ];
    }

    pub served_active : IsServed v.active a.id → IsActive s a
    served_active served =
        let w = (are.active a.id).0 served.here in
        subst (IsActive s) (one_area w.0 a w.1.0 here w.2) w.1

    pub served_border : IsServed v.active a.id → IsBorder s
    served_border served =
        let o = served.other in
        let w = (are.active o.0).0 o.1 in
        (a, w.0, served_active served, w.1, λ e. o.2 (sym w.2 ∙ sym e))
