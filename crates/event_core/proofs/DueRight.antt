-- Due summaries of routes that are kept are right, and what is found of an area is what is due in
-- it.
--   routes_due: the lists are what is due in the configured areas
--   list_found: the list of an area is the first of them under its Area ID
--   due_found: which is what is due in it
use Rattle.std.proofs.Common.{◌≡◌, ◌≢◌, ◌==◌, ℕ, List, [], ◌∷◌, Option, Some, None, refl, sym, ap, subst, ◌∙◌, inl, inr, ⊎_elim, Bool}
use Rattle.std.specs.Prelude.{if◌then◌else◌}
use Rattle.std.specs.List.{Contains}
use Rattle.std.proofs.lemmas.Bool.Decides.{eqb_tells}
use Rattle.ospf_types.specs.Inputs.{Inputs, Area}
use Rattle.ospf_types.proofs.Elements.{no_element, first_element, later_element, first_or_later}
use Rattle.summaries.specs.DueSummary.{DueSummary}
use Rattle.summaries.specs.Lists.{AreaSummariesValue}
use Rattle.summaries.specs.DueSummaries.{list_in, listed, lists_of}
use Rattle.summaries.specs.Right.{AreListsRight}
use Rattle.event_state.specs.States.{State, inputs_of}
use Rattle.calculation.proofs.Summaries.{due_right}
use Rattle.event_core.specs.Following.{RoutesValue, AreRoutesOf}
use Rattle.event_core.specs.Right.{AreDue, AreListsDue, IsDueAmong, list_under}

lists_due : (s : Inputs) (areas : List Area) (lists : List AreaSummariesValue) → AreListsRight s areas lists → AreListsDue s areas (listed lists)
lists_due s [] [] are = tt
lists_due s [] (w ∷ lists) are = absurd are
lists_due s (a ∷ areas) [] are = absurd are
lists_due s (a ∷ areas) (w ∷ lists) are = ((are.0.area, record { in_order = are.0.in_order; exact = are.0.exact }), lists_due s areas lists are.1)

pub routes_due : (s : State) (r : RoutesValue) → AreRoutesOf s r → AreDue s (lists_of r.summaries)
routes_due s r are = lists_due (inputs_of s) (inputs_of s).areas r.summaries.areas (due_right s r.calculation r.summaries are.calculation are.summaries)

pub list_found : (lists : List AreaSummariesValue) (id : ℕ) → list_in lists id ≡ list_under (listed lists) id
list_found [] id = refl
list_found (w ∷ lists) id = ap (λ (rest : Option (List DueSummary)). if w.area == id then Some w.list else rest) (list_found lists id)

-- what is found among the other areas
module _ (s : Inputs) (a : Area) (areas : List Area) (id : ℕ) where
  among_more : (o : Option (List DueSummary)) → a.id ≢ id → IsDueAmong s areas id o → IsDueAmong s (a ∷ areas) id o
  among_more None other none = λ b c. ⊎_elim (λ (here : b ≡ a). λ (same : b.id ≡ id). other (ap (λ (x : Area). x.id) (sym here) ∙ same)) (λ (later : Contains areas b). none b later) (first_or_later a b areas c)
  among_more (Some list) other w = (w.0, later_element a w.0 areas w.1, w.2, w.3)

pub due_found : (s : Inputs) (areas : List Area) (lists : List (ℕ × List DueSummary)) (id : ℕ) → AreListsDue s areas lists → IsDueAmong s areas id (list_under lists id)
due_found s [] [] id are = λ a c. absurd (no_element a c)
due_found s [] (e ∷ lists) id are = absurd are
due_found s (a ∷ areas) [] id are = absurd are
due_found s (a ∷ areas) (e ∷ lists) id are =
    let later = due_found s areas lists id are.1 in
    elim (eqb_tells e.0 id) [
      | inl t ↦ subst (λ (b : Bool). IsDueAmong s (a ∷ areas) id (if b then Some e.1 else list_under lists id)) (sym t.0) (a, first_element a areas, sym are.0.0 ∙ t.1, are.0.1)
      | inr t ↦ subst (λ (b : Bool). IsDueAmong s (a ∷ areas) id (if b then Some e.1 else list_under lists id)) (sym t.0) (among_more s a areas id (list_under lists id) (λ same. t.1 (are.0.0 ∙ same)) later)
    ]
