-- The networks of one range, met one by one, and the greatest of their costs.
use Rattle.std.proofs.Common.{◌≡◌, ℕ, ◌<◌, Bool, [], ◌∷◌, Option, Some, None, refl, sym, subst, ◌∙◌, ap, ◌⊎◌, inl, inr, arith}
use Rattle.std.specs.Prelude.{◌↔◌, Contains}
use Rattle.std.specs.BTreeMap.{is_at}
use Rattle.std.specs.FinMap.{get}
use Rattle.std.specs.Cmp.{eq_by_cmp_equiv}
use Rattle.std.specs.Map.{keys_of, lookup}
use Rattle.std.proofs.lemmas.Map.Keys.{IsDistinct-from_sorted}
use Rattle.std.proofs.lemmas.Map.Views.{tells_apart, Contains-from_lookup, lookup-from_Contains}
use Rattle.ospf_types.specs.declared.prefix.Prefix.{Prefix}
use Rattle.ospf_types.specs.Network.{network_cmp}
use Rattle.ospf_types.specs.Summaries.{IsGreatest}
use Rattle.ospf_types.proofs.Elements.{no_element, first_element, later_element, first_or_later}
use Rattle.ospf_types.proofs.Orders.{network_total, network_exact}
use Rattle.active_ranges.specs.Active.{HasCost}
use Rattle.active_ranges.specs.Grouped.{IsCostOf, RangeNetworksValue, NetworksByRange, range_cmp}
use Rattle.active_ranges.specs.declared.member.AreaRange.{AreaRange}
use Rattle.active_ranges.proofs.Greatest.{IsReached, is_greatest, greater, greater_one, greater_left, greater_right}
use Rattle.active_ranges.proofs.Grouped.{cost_among, found, ranges_value}
use Rattle.active_ranges.proofs.Placed.{AreInOrder, Entries}

some_same : {A : Type 0} {x y : A} → Some x ≡ Some y → x ≡ y
some_same e = cc

module _ (networks : RangeNetworksValue) (limit : ℕ) where
  abbrev pub IsCost : ℕ → Type 0
  IsCost c = IsCostOf networks c × (c < limit)

  -- one of the networks met so far has this cost, and none of them a greater one; the others are
  -- still to come
  pub record AreWeighed (most : Option ℕ) (left : Entries) : Type 0 where
    pub found : (c : ℕ) → most ≡ Some c → IsCost c
    pub reached : (c : ℕ) → IsCost c → IsReached most c ⊎ ((network : Prefix) × Contains left (network, c))
    pub there : (network : Prefix) (c : ℕ) → Contains left (network, c) → IsCostOf networks c

  pub weighed_none : AreInOrder networks.entries → (left : Entries) → left ≡ networks.entries → AreWeighed None left
  weighed_none ordered left is = subst (AreWeighed None) (sym is) record {
    found = λ c none. absurd (let wrong : None ≡ Some c = none in cc);
    reached = λ c cost. inr (cost.0.0, Contains-from_lookup (tells_apart network_exact) cost.0.0 c networks.entries cost.0.1);
    there = λ network c there. (network, lookup-from_Contains (eq_by_cmp_equiv network_total) network c networks.entries (IsDistinct-from_sorted network_cmp (keys_of networks.entries) ordered) there);
  }

  module _ (network : Prefix) (c : ℕ) (left : Entries) (most : Option ℕ) (are : AreWeighed most ((network, c) ∷ left)) where
    -- the next is met
    met : (new : Option ℕ) → ((n : ℕ) → new ≡ Some n → IsCost n) → ((n : ℕ) → IsReached most n → IsReached new n) → (IsCost c → IsReached new c) → AreWeighed new left
    met new found more here = record {
      found = found;
      reached = λ n is. elim (are.reached n is) [
        | inl r ↦ inl (more n r)
        | inr w ↦ elim (first_or_later (network, c) (w.0, n) left w.1) [
          | inl first ↦ let same : n ≡ c = ap (λ (e : Prefix × ℕ). e.1) first in inl (subst (IsReached new) (sym same) (here (subst IsCost same is)))
          | inr later ↦ inr (w.0, later)
        ]
      ];
      there = λ x d there. are.there x d (later_element (network, c) (x, d) left there);
    }

    -- its cost is none below the limit
    pub weighed_past : (c < limit → ⊥) → AreWeighed most left
    weighed_past past = met most are.found (λ n r. r) (λ is. absurd (past is.1))

    -- or it is
    pub weighed_more : c < limit → AreWeighed (greater most (Some c)) left
    weighed_more lt =
        let cost : IsCost c = (are.there network c (first_element (network, c) left), lt) in
        met (greater most (Some c))
        (λ n is. elim (greater_one most (Some c) n is) [ inl was ↦ are.found n was | inr e ↦ subst IsCost (let d : Some c ≡ Some n = e in some_same d) cost ])
        (λ n r. greater_left most (Some c) n r)
        (λ is. greater_right most (Some c) c (c, refl, omega arith))

  pub weighed_all : (most : Option ℕ) (left : Entries) → left ≡ [] → AreWeighed most left → (n : ℕ) → (most ≡ Some n) ↔ IsGreatest IsCost n
  weighed_all most left none are = is_greatest IsCost most are.found (λ n is. elim (are.reached n is) [ inl r ↦ r | inr w ↦ absurd (no_element (w.0, n) (subst (λ (es : Entries). Contains es (w.0, n)) none w.1)) ])

-- ---- the costs of a range belong to its networks

greatest_alike : (P Q : ℕ → Type 0) → ((c : ℕ) → P c ↔ Q c) → (n : ℕ) → IsGreatest P n → IsGreatest Q n
greatest_alike P Q alike n g = record { holds = (alike n).0 g.holds; greatest = λ m q. g.greatest m ((alike m).1 q) }

module _ (rs : NetworksByRange) (spent : Bool) (range : Prefix) (area limit : ℕ) where
  abbrev at_range : AreaRange
  at_range = record { prefix = range; area = area }

  abbrev IsCostBelow : ℕ → Type 0
  IsCostBelow c = HasCost (ranges_value rs spent) range area c × (c < limit)

  pub costliest_there : (networks : RangeNetworksValue) → Some networks ≡ lookup (is_at (range_cmp at_range)) rs → (most : Option ℕ) → ((n : ℕ) → (most ≡ Some n) ↔ IsGreatest (λ c. IsCostOf networks c × (c < limit)) n)
      → (n : ℕ) → (most ≡ Some n) ↔ IsGreatest IsCostBelow n
  costliest_there networks stands most is n =
      let of : (network : Prefix) → get (ranges_value rs spent).members (record { range = range; area = area; network = network }) ≡ lookup (is_at (network_cmp network)) networks.entries =
      λ network. found rs spent (record { range = range; area = area; network = network }) ∙ ap (λ (o : Option RangeNetworksValue). cost_among o network) (sym stands) in
      let alike : (c : ℕ) → (IsCostOf networks c × (c < limit)) ↔ IsCostBelow c = λ c. (λ w. ((w.0.0, of w.0.0 ∙ w.0.1), w.1), λ w. ((w.0.0, sym (of w.0.0) ∙ w.0.1), w.1)) in
      (λ m. greatest_alike (λ c. IsCostOf networks c × (c < limit)) IsCostBelow alike n ((is n).0 m), λ g. (is n).1 (greatest_alike IsCostBelow (λ c. IsCostOf networks c × (c < limit)) (λ c. ((alike c).1, (alike c).0)) n g))

  pub costliest_none : None ≡ lookup (is_at (range_cmp at_range)) rs → (n : ℕ) → IsGreatest IsCostBelow n → ⊥
  costliest_none none n g =
      let w = g.holds.0 in
      let wrong : None ≡ Some n = ap (λ (o : Option RangeNetworksValue). cost_among o w.0) none ∙ sym (found rs spent (record { range = range; area = area; network = w.0 })) ∙ w.1 in
      cc
