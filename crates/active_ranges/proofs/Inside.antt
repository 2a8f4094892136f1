-- The networks that lie within a range, one by one.
use Rattle.std.proofs.Common.{◌≡◌, ℕ, List, [], Option, Some, None, refl, sym, ap, subst, ◌∙◌, inl, inr}
use Rattle.std.specs.Prelude.{◌↔◌, Contains, IsSome, is_some}
use Rattle.std.specs.FinMap.{get}
use Rattle.ospf_types.specs.declared.config.AreaConfig.{AreaConfig}
use Rattle.ospf_types.specs.declared.config.Range.{Range}
use Rattle.ospf_types.specs.declared.prefix.Prefix.{Prefix}
use Rattle.ospf_types.specs.declared.entry.Entry.{Entry}
use Rattle.ospf_types.specs.Address.{Covers}
use Rattle.ospf_types.proofs.Elements.{no_element}
use Rattle.route_choice.specs.Lists.{IsOfSome}
use Rattle.intra.specs.Intras.{EntriesByPrefix}
use Rattle.active_ranges.specs.Active.{IsConfigured, IsMemberWithin}
use Rattle.active_ranges.specs.Following.{HasMore, IsAddedWithin, IsCostIn, IsCostWithin}
use Rattle.active_ranges.specs.declared.member.RangeMember.{RangeMember}

pub some_number : (a b : ℕ) → Some a ≡ Some b → a ≡ b
some_number a b e = cc

-- the member that the network is of the range, at its cost
abbrev pub IsOfNetwork : EntriesByPrefix → ℕ → Prefix → Prefix → RangeMember × ℕ → Type 0
IsOfNetwork entries area range network = IsAddedWithin entries (record { range = range; area = area; network = network })

module _ (entries : EntriesByPrefix) (area : ℕ) (range : Prefix) (networks : List Prefix) (all : (p : Prefix) → Contains networks p ↔ IsSome (get entries p)) where
  of_network : (x : RangeMember × ℕ) → IsOfSome networks (IsOfNetwork entries area range) x → IsCostWithin entries area range x
  of_network x w =
      let covers = w.2.1 in
      let cost = w.2.2 in
      subst (λ (m : RangeMember). IsMemberWithin entries area range m × IsCostIn (get entries m.network) m.area x.1) (sym w.2.0) ((refl, refl, (cost.0, cost.1, cost.2, covers)), cost)

  from_network : (x : RangeMember × ℕ) → IsCostWithin entries area range x → IsOfSome networks (IsOfNetwork entries area range) x
  from_network x w =
      let network = x.0.network in
      let id = w.0.0 in
      let prefix = w.0.1 in
      let within = w.0.2 in
      let there : Contains networks network = (all network).1 (ap is_some within.1) in
      (network, there, ((λ i. record { range = prefix i; area = id i; network = network }), within.3, subst (λ (n : ℕ). IsCostIn (get entries network) n x.1) id w.1))

  -- from no members
  pub all_within : (costs : List (RangeMember × ℕ)) → HasMore (IsOfSome networks (IsOfNetwork entries area range)) [] costs → (x : RangeMember × ℕ) → Contains costs x ↔ IsCostWithin entries area range x
  all_within costs more x = (
    λ c. elim ((more x).0 c) [ inl none ↦ absurd (no_element x none) | inr some ↦ of_network x some ],
    λ is. (more x).1 (inr (from_network x is)),
  )

-- where the cost of the network's entry belongs to one through the area
module _ (entries : EntriesByPrefix) (member : RangeMember) (looked : Option Entry) (held : looked ≡ get entries member.network) (found : Option ℕ) (costs : (cost : ℕ) → (found ≡ Some cost) ↔ IsCostIn looked member.area cost) where
  -- it is that cost alone
  pub within_by : (cost : ℕ) → found ≡ Some cost → Covers member.range member.network → (x : RangeMember × ℕ) → IsAddedWithin entries member x ↔ (x ≡ (member, cost))
  within_by cost is covers x = (
    λ w.
        let e : IsCostIn looked member.area x.1 = subst (λ (o : Option Entry). IsCostIn o member.area x.1) (sym held) w.2 in
        let same : x.1 ≡ cost = some_number x.1 cost (sym ((costs x.1).1 e) ∙ is) in
        (λ i. (w.0 i, same i)),
    λ e. subst (IsAddedWithin entries member) (sym e) (refl, covers, subst (λ (o : Option Entry). IsCostIn o member.area cost) held ((costs cost).0 is)),
  )

  -- or it has none
  pub outside_by : found ≡ None → (x : RangeMember × ℕ) → IsAddedWithin entries member x → ⊥
  outside_by none x w =
      let e : IsCostIn looked member.area x.1 = subst (λ (o : Option Entry). IsCostIn o member.area x.1) (sym held) w.2 in
      let wrong = sym none ∙ (costs x.1).1 e in absurd cc

pub uncovered : (entries : EntriesByPrefix) (member : RangeMember) → (Covers member.range member.network → ⊥) → (x : RangeMember × ℕ) → IsAddedWithin entries member x → ⊥
uncovered entries member not x w = not w.1

-- the area is the one and has a range with the prefix
abbrev pub HasRange : ℕ → Prefix → AreaConfig → Type 0
HasRange id prefix a = (a.id ≡ id) × ((r : Range) × Contains a.ranges r × (r.prefix ≡ prefix))

-- so is none of them
pub not_configured : (areas : List AreaConfig) (id : ℕ) (prefix : Prefix) → ((a : AreaConfig) → Contains areas a → HasRange id prefix a → ⊥) → IsConfigured areas id prefix → ⊥
not_configured areas id prefix none w = none w.0 w.2 (w.3, (w.1, w.4, w.5))
