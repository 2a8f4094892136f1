-- The area that a route leads through.
use Rattle.std.proofs.Common.{◌≡◌, ℕ, ◌<◌, Option, Some, None, sym, ap, subst, ◌∙◌, refl}
use Rattle.std.specs.Prelude.{◌↔◌}
use Rattle.std.specs.FinMap.{get}
use Rattle.ospf_types.specs.declared.entry.Entry.{Entry}
use Rattle.ospf_types.specs.declared.prefix.Prefix.{Prefix}
use Rattle.ospf_types.specs.Inter.{LSInfinity}
use Rattle.external.specs.AsbrRoute.{PreferredValue}
use Rattle.summaries.specs.declared.giving.Through.{Through}
use Rattle.summaries.specs.Inputs.{SummaryInputsValue}
use Rattle.summaries.specs.Giving.{IsOutsideRanges}
use Rattle.summaries.specs.Candidates.{IsIntraThrough, IsPreferredThrough, LeadsThrough}

some_same : {A : Type 0} {x y : A} → Some x ≡ Some y → x ≡ y
some_same e = cc

abbrev one : ℕ → ℕ → Through
one area cost = record { area = area; cost = cost }

pub entry_leads : (o : Option Entry) (e : Entry) (area : ℕ) → o ≡ Some e → e.area ≡ Some area → e.cost < LSInfinity → (t : Through) → (Some (one area e.cost) ≡ Some t) ↔ LeadsThrough o t
entry_leads o e area has leads finite t = (
  λ is. subst (LeadsThrough o) (some_same is) (e, has, leads, finite, refl),
  λ w.
      let same : w.0 ≡ e = some_same (sym w.1 ∙ has) in
      let through : area ≡ t.area = some_same (sym leads ∙ ap (λ (f : Entry). f.area) (sym same) ∙ w.2) in
      let cost : e.cost ≡ t.cost = ap (λ (f : Entry). f.cost) (sym same) ∙ w.4 in
      ap Some (λ i. one (through i) (cost i)),
)

pub preferred_leads : (o : Option PreferredValue) (e : PreferredValue) (area cost : ℕ) → o ≡ Some e → area ≡ e.preference.area → cost ≡ e.preference.cost → cost < LSInfinity → (t : Through)
    → (Some (one area cost) ≡ Some t) ↔ IsPreferredThrough o t
preferred_leads o e area cost has at worth finite t = (
  λ is. subst (IsPreferredThrough o) (some_same is) (e, has, sym at, subst (λ (n : ℕ). n < LSInfinity) worth finite, sym worth),
  λ w.
      let same : w.0 ≡ e = some_same (sym w.1 ∙ has) in
      let through : area ≡ t.area = at ∙ ap (λ (f : PreferredValue). f.preference.area) (sym same) ∙ w.2 in
      let cost_is : cost ≡ t.cost = worth ∙ ap (λ (f : PreferredValue). f.preference.cost) (sym same) ∙ w.4 in
      ap Some (λ i. one (through i) (cost_is i)),
)

-- a network's intra-area entry, with the area that it leads through
module _ (v : SummaryInputsValue) (p : Prefix) (found : Option Through) (leads : (t : Through) → (found ≡ Some t) ↔ LeadsThrough (get v.intra.entries p) t) where
  pub leads_nowhere : (o : Option Through) → o ≡ None → found ≡ None → (t : Through) → (o ≡ Some t) ↔ IsIntraThrough v p t
  leads_nowhere o none is t = (
    λ some. absurd (let wrong : None ≡ Some t = sym none ∙ some in cc),
    λ w. absurd (let wrong : None ≡ Some t = sym is ∙ (leads t).1 w.0 in cc),
  )

  module _ (through : Through) (is : found ≡ Some through) where
    pub leads_outside : IsOutsideRanges v.areas through.area p → (t : Through) → (Some through ≡ Some t) ↔ IsIntraThrough v p t
    leads_outside outside t = (
      λ same. ((leads t).0 (is ∙ same), subst (λ (s : Through). IsOutsideRanges v.areas s.area p) (some_same same) outside),
      λ w. sym is ∙ (leads t).1 w.0,
    )

    pub leads_inside : (IsOutsideRanges v.areas through.area p → ⊥) → (t : Through) → (None ≡ Some t) ↔ IsIntraThrough v p t
    leads_inside inside t = (
      λ wrong. absurd cc,
      λ w. absurd (inside (subst (λ (s : Through). IsOutsideRanges v.areas s.area p) (some_same (sym ((leads t).1 w.0) ∙ is)) w.1)),
    )
