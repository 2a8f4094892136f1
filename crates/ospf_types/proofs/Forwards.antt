-- The longest match of a forwarding address is the same whether an active range with an entry
-- counts as a discard or not.
use Rattle.std.proofs.Common.{ℕ, ◌<◌, ◌≤◌, ◌⊎◌, inl, inr, ⊎_elim, arith}
use Rattle.std.specs.Prelude.{◌↔◌}
use Rattle.std.proofs.lemmas.Bool.{cases_lt}
use Rattle.ospf_types.specs.declared.prefix.Prefix.{Prefix}
use Rattle.ospf_types.specs.declared.hop.NextHop.{NextHop}
use Rattle.ospf_types.specs.Address.{HasAddress}
use Rattle.ospf_types.specs.External.{InternalReaches, IsForwardDiscard}
use Rattle.ospf_types.specs.Inputs.{Inputs}
use Rattle.ospf_types.specs.Ranges.{IsActivePrefix}

module _ (s : Inputs) (address : ℕ) (p : Prefix) where
  -- no network that contains the address, and has an entry or is discarded, is longer
  abbrev pub IsLongest : (Prefix → Type 0) → Type 0
  IsLongest IsDiscard = (q : Prefix) → q.length ≤ 32 → HasAddress q address → (((class cost : ℕ) × (h : NextHop) × InternalReaches s q class cost h) ⊎ IsDiscard q) → q.length ≤ p.length

  pub same_longest : IsLongest (IsForwardDiscard s) ↔ IsLongest (IsActivePrefix s)
  same_longest = (
    λ longest q within contains known. ⊎_elim
        (λ (reached : (class cost : ℕ) × (h : NextHop) × InternalReaches s q class cost h). longest q within contains (inl reached))
        (λ (active : IsActivePrefix s q). ⊎_elim
        (λ (longer : p.length < q.length).
        longest q within contains (inr (active, λ class cost h reaches. let short : q.length ≤ p.length = longest q within contains (inl (class, cost, h, reaches)) in omega (arith, longer, short))))
        (λ (short : q.length ≤ p.length). short)
        (cases_lt p.length q.length))
        known,
    λ longest q within contains known. ⊎_elim
        (λ (reached : (class cost : ℕ) × (h : NextHop) × InternalReaches s q class cost h). longest q within contains (inl reached))
        (λ (discard : IsForwardDiscard s q). longest q within contains (inr discard.0))
        known,
  )
