-- The active areas, one by one.
use Rattle.std.proofs.Common.{◌≡◌, ℕ, ◌<◌, ◌+◌, List, [], ◌∷◌, ◌++◌, get_or, take, length, refl, sym, ap, subst, ◌∙◌, inl, inr, ⊎_elim}
use Rattle.std.specs.List.{Contains}
use Rattle.std.proofs.lemmas.List.Elements.{Contains-append_left, Contains-append_right, Contains-push_cases}
use Rattle.ospf_types.specs.declared.config.AreaConfig.{AreaConfig}
use Rattle.ospf_types.specs.declared.config.Config.{Config}
use Rattle.ospf_types.specs.Inputs.{Area}
use Rattle.ospf_types.proofs.Elements.{no_element, first_element}
use Rattle.spf.proofs.OfSome.{contains_more}
use Rattle.event_state.specs.States.{State}
use Rattle.route_layers.specs.Layers.{IsUpIn}
use Rattle.route_layers.specs.Layers.{AreActiveIn, AreActive}

pub none_active : (s : State) (active : List ℕ) → active ≡ [] → AreActiveIn s [] active
none_active s active none area = (λ c. absurd (no_element area (subst (λ (list : List ℕ). Contains list area) none c)), λ w. absurd (no_element w.0 w.1))

module _ (s : State) (areas : List AreaConfig) (i : ℕ) (a : AreaConfig) (lt : i < length areas) (here : a ≡ get_or areas i a) (active : List ℕ) (are : AreActiveIn s (take i areas) active) where
  pub one_active : IsUpIn s a.id → AreActiveIn s (take (i + 1) areas) (active ++ a.id ∷ [])
  one_active up area = (
    λ c. ⊎_elim
        (λ (before : Contains active area). let w = (are area).0 before in (w.0, (contains_more areas i a w.0 lt here).1 (inl w.1), w.2, w.3))
        (λ (now : a.id ≡ area). (a, (contains_more areas i a a lt here).1 (inr refl), now, up))
        (Contains-push_cases active a.id area c),
    λ w. elim ((contains_more areas i a w.0 lt here).0 w.1) [
      | inl before ↦ Contains-append_left active (a.id ∷ []) area ((are area).1 (w.0, before, w.2, w.3))
      | inr now ↦ Contains-append_right active (a.id ∷ []) area (subst (Contains (a.id ∷ [])) (ap (λ (x : AreaConfig). x.id) (sym now) ∙ w.2) (first_element a.id []))
    ],
  )

  pub one_idle : (IsUpIn s a.id → ⊥) → AreActiveIn s (take (i + 1) areas) active
  one_idle not area = (
    λ c. let w = (are area).0 c in (w.0, (contains_more areas i a w.0 lt here).1 (inl w.1), w.2, w.3),
    λ w. elim ((contains_more areas i a w.0 lt here).0 w.1) [
      | inl before ↦ (are area).1 (w.0, before, w.2, w.3)
      | inr now ↦ absurd (not (subst (λ (x : AreaConfig). IsUpIn s x.id) now w.3))
    ],
  )
