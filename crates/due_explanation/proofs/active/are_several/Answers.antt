-- Two areas differ where one of all differs from the first.
use Rattle.std.proofs.Common.{◌≡◌, ◌≢◌, ℕ, List, [], ◌∷◌, Some, None, sym, subst, ◌∙◌, inl, inr}
use Rattle.std.specs.Prelude.{◌↔◌, Contains, slice_get}
use Rattle.std.proofs.lemmas.Bool.{cases_eq}
use Rattle.ospf_types.proofs.Elements.{first_element}
use Rattle.due_explanation.specs.Reasons.{AreSeveral}
use Rattle.due_explanation.proofs.active.are_several.Goals as goal

first_of : (active : List ℕ) (first : ℕ) → slice_get active 0 ≡ Some first → Contains active first
first_of [] first is = absurd (let wrong : None ≡ Some first = is in cc)
first_of (x ∷ rest) first is = let same : x ≡ first = (let e : Some x ≡ Some first = is in cc) in subst (Contains (x ∷ rest)) same (first_element x rest)

several : (active : List ℕ) (first : ℕ) → Contains active first → ((another : ℕ) × Contains active another × (another ≢ first)) ↔ AreSeveral active
several active first here = (
  λ other. (other.0, first, other.1, here, other.2),
  λ two. elim (cases_eq two.0 first) [
    | inl same ↦ (two.1, two.3, λ e. two.4 (same ∙ sym e))
    | inr apart ↦ (two.0, two.2, apart)
  ],
)

pub returns-in-Some : goal.returns-in-Some
returns-in-Some c =
    let active = c.args.active.now in
    let by = several active c.in-Some.first.now (first_of active c.in-Some.first.now (sym c.in-Some.ensures.value)) in
    (λ t. by.0 (c.has_other_active_area.ensures.0 t), λ two. c.has_other_active_area.ensures.1 (by.1 two))
