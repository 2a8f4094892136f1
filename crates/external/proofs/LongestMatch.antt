-- The longest match of a forwarding address, found by going down the lengths.
use Rattle.std.proofs.Common.{◌≡◌, ℕ, ◌+◌, ◌≤◌, inl, inr, sym, ap, subst, ◌∙◌, refl, arith}
use Rattle.std.proofs.lemmas.Bool.{cases_lt}
use Rattle.ospf_types.specs.declared.prefix.Prefix.{Prefix}
use Rattle.ospf_types.specs.Address.{HasAddress, network_around}
use Rattle.ospf_types.proofs.Masking.{is_around}
use Rattle.external.specs.Forwards.{Matches, IsLongest, IsMatchOf}
use Rattle.external.specs.Inputs.{ExternalInputsValue}
use Rattle.std.specs.Prelude.{None}

module _ (v : ExternalInputsValue) (address : ℕ) where
  -- no network of that length or a longer one matches
  abbrev pub NoneFrom : ℕ → Type 0
  NoneFrom length = (q : Prefix) → length ≤ q.length → q.length ≤ 32 → HasAddress q address → Matches v q → ⊥

  pub none_past_32 : NoneFrom 33
  none_past_32 q long short has matches = omega (arith, long, short)

  -- a length more
  pub none_more : (length : ℕ) (p : Prefix) → p ≡ network_around address length → (Matches v p → ⊥) → NoneFrom (length + 1) → NoneFrom length
  none_more length p is here above q long short has matches = elim (cases_lt length q.length) [
    | inl longer ↦ above q (omega (arith, longer)) short has matches
    | inr below ↦
        let same : q.length ≡ length = omega (arith, below, long) in
        here (subst (Matches v) (is_around q address has ∙ ap (network_around address) same ∙ sym is) matches)
  ]

  pub longest : (length : ℕ) → length ≤ 32 → (p : Prefix) → p ≡ network_around address length → Matches v p → NoneFrom (length + 1) → IsLongest v address p
  longest length within p is matches above = subst (λ (q : Prefix). IsLongest v address q) (sym is) (record {
    within = within;
    contains = refl;
    matches = subst (Matches v) is matches;
    longest = λ q short has other. elim (cases_lt length q.length) [
      | inl longer ↦ absurd (above q (omega (arith, longer)) short has other)
      | inr below ↦ below
    ];
  })

  pub none_at_all : NoneFrom 0 → IsMatchOf v address None
  none_at_all none q short has matches = none q (omega arith) short has matches
