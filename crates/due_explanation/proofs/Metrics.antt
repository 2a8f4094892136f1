-- The metric of the explanation is the one at which the summary is due by the definitions.
use Rattle.std.proofs.Common.{◌≡◌, ℕ, List, [], ◌∷◌, true, false, cond, Option, Some, None, refl, sym, ap, subst, ◌∙◌, inl, inr}
use Rattle.std.specs.Prelude.{◌==◌, Contains}
use Rattle.std.proofs.lemmas.Bool.Decides.{Decides-eqb}
use Rattle.ospf_types.specs.declared.config.AreaConfig.{AreaConfig}
use Rattle.ospf_types.specs.declared.key.Dest.{Dest}
use Rattle.ospf_types.specs.Inputs.{Area}
use Rattle.ospf_types.specs.Summaries.{IsDue}
use Rattle.ospf_types.proofs.Elements.{no_element, first_element, later_element, first_or_later, mapped_element, mapped_from}
use Rattle.summaries.specs.Inputs.{SummaryInputsValue}
use Rattle.summaries.specs.Right.{AreInputsOf}
use Rattle.summaries.proofs.Areas.{one_area}
use Rattle.event_state.specs.States.{State, inputs_of}
use Rattle.route_layers.specs.Works.{area_of}
use Rattle.calculation.specs.Summaries.{summary_inputs}
use Rattle.due_explanation.specs.Reasons.{IsExplainedAt, area_with}
use Rattle.due_explanation.specs.declared.due.DueExplained.{DueExplained}
use Rattle.due_explanation.specs.Explained.{IsDueExplained, IsDueMetric}
use Rattle.calculation.proofs.Summaries.{due_are}
use Rattle.due_explanation.proofs.Defined.{due_same}

-- ---- the area with the Area ID

abbrev IsWith : List AreaConfig → ℕ → Option AreaConfig → Type 0
IsWith areas id None = (a : AreaConfig) → Contains areas a → a.id ≡ id → ⊥
IsWith areas id (Some a) = Contains areas a × (a.id ≡ id)

later : (a : AreaConfig) (areas : List AreaConfig) (id : ℕ) (found : Option AreaConfig) → (a.id ≡ id → ⊥) → IsWith areas id found → IsWith (a ∷ areas) id found
later a areas id None other none = λ b there same. elim (first_or_later a b areas there) [
  | inl first ↦ other (ap (λ (x : AreaConfig). x.id) (sym first) ∙ same)
  | inr more ↦ none b more same
]
later a areas id (Some k) other is = (later_element a k areas is.0, is.1)

area_is : (areas : List AreaConfig) (id : ℕ) → IsWith areas id (area_with areas id)
area_is [] id = λ a there same. no_element a there
area_is (a ∷ areas) id =
    let rest = area_is areas id in
    elim (a.id == id) as (λ b. (a.id == id) ≡ b → IsWith (a ∷ areas) id (cond b (Some a) (area_with areas id))) [
      | true ↦ λ is. (first_element a areas, (Decides-eqb a.id id).0 is)
      | false ↦ λ is. later a areas id (area_with areas id) (λ same. let wrong : true ≡ false = sym ((Decides-eqb a.id id).1 same) ∙ is in absurd cc) rest
    ] refl

-- ---- the metric

module _ (s : State) (v : SummaryInputsValue) (are : AreInputsOf (inputs_of s) v) (id : ℕ) (d : Dest) where
  metric_at : (found : Option AreaConfig) → IsWith s.config.areas id found → (x : DueExplained) → IsExplainedAt v found d x → IsDueMetric s id d x.metric
  metric_at None none x is m = (
    λ e. absurd (let wrong : None ≡ Some m = sym is.0 ∙ e in cc),
    λ w. let k = mapped_from (area_of s) s.config.areas w.0 w.1 in absurd (none k.0 k.1 (ap (λ (a : Area). a.id) k.2 ∙ w.2)),
  )
  metric_at (Some k) one x is m =
      let a : Area = area_of s k in
      let here : Contains (inputs_of s).areas a = mapped_element (area_of s) s.config.areas k one.0 in
      let due = due_same (inputs_of s) v are a here k refl refl d m in (
        λ e. (a, here, one.1, due.0 ((is.metric m).0 e)),
        λ w.
            let same : w.0 ≡ a = one_area (inputs_of s) v are w.0 a w.1 here (w.2 ∙ sym one.1) in
            (is.metric m).1 (due.1 (subst (λ (b : Area). IsDue (inputs_of s) b d m) same w.3)),
      )

pub metric_is : (s : State) (id : ℕ) (d : Dest) (x : DueExplained) → IsDueExplained s id d x → IsDueMetric s id d x.metric
metric_is s id d x is = metric_at s (summary_inputs s is.active is.calculation) (due_are s is.active is.active_is is.calculation is.right) id d (area_with s.config.areas id) (area_is s.config.areas id) x is.why
