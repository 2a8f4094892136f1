-- The activity of a range with a prefix is decidable.
use Rattle.std.proofs.Common.{◌≡◌, ◌≢◌, ℕ, List, [], ◌∷◌, ap, sym, ◌∙◌, ◌⊎◌, inl, inr, ⊎_elim}
use Rattle.std.specs.List.{Contains}
use Rattle.std.specs.FinMap.{entries}
use Rattle.std.proofs.lemmas.Bool.{cases_eq}
use Rattle.ospf_types.specs.declared.prefix.Prefix.{Prefix}
use Rattle.ospf_types.proofs.Elements.{no_element, first_element, later_element, first_or_later}
use Rattle.active_ranges.specs.Active.{ActiveValue, IsActiveIn}
use Rattle.active_ranges.specs.declared.member.RangeMember.{RangeMember}
use Rattle.active_ranges.proofs.Members.{member_total, member_exact}
use Rattle.event_state.proofs.Sorted.{value_at, value_from}

same_network : (p q : Prefix) → (p ≡ q) ⊎ (p ≢ q)
same_network p q = elim (cases_eq p.address q.address) [
  | inr other ↦ inr (λ e. other (ap (λ (x : Prefix). x.address) e))
  | inl a ↦ elim (cases_eq p.length q.length) [
    | inr other ↦ inr (λ e. other (ap (λ (x : Prefix). x.length) e))
    | inl l ↦ inl (λ i. record { address = a i; length = l i })
  ]
]

-- one of the entries is of a range with the prefix, or none is
abbrev HasRange : List (RangeMember × ℕ) → Prefix → Type 0
HasRange es p = (e : RangeMember × ℕ) × Contains es e × (e.0.range ≡ p)

range_or_not : (es : List (RangeMember × ℕ)) (p : Prefix) → HasRange es p ⊎ (HasRange es p → ⊥)
range_or_not [] p = inr (λ w. no_element w.0 w.1)
range_or_not (e ∷ es) p = elim (same_network e.0.range p) [
  | inl here ↦ inl (e, first_element e es, here)
  | inr other ↦ elim (range_or_not es p) [
    | inl w ↦ inl (w.0, later_element e w.0 es w.1, w.2)
    | inr none ↦ inr (λ w. ⊎_elim (λ (first : w.0 ≡ e). other (ap (λ (x : RangeMember × ℕ). x.0.range) (sym first) ∙ w.2)) (λ (later : Contains es w.0). none (w.0, later, w.2)) (first_or_later e w.0 es w.1))
  ]
]

pub active_or_not : (v : ActiveValue) (p : Prefix) → IsActiveIn v p ⊎ (IsActiveIn v p → ⊥)
active_or_not v p = elim (range_or_not (entries v.members) p) [
  | inl w ↦ inl (w.0.0, w.0.1, value_from v.members w.0.0 w.0.1 member_total w.1, w.2)
  | inr none ↦ inr (λ w. none ((w.0, w.1), value_at v.members w.0 w.1 member_exact w.2, w.3))
]
