-- A table of items that follows what is kept.
use Rattle.std.proofs.Common.{◌≡◌, ◌≢◌, List, [], ◌∷◌, Option, refl, sym, ap, subst, ◌∙◌, ◌⊎◌, inl, inr, ⊎_elim}
use Rattle.std.specs.FinMap.{FinMap, get}
use Rattle.std.specs.List.{Contains}
use Rattle.std.specs.List.Sorted.{IsStrictlySortedBy}
use Rattle.std.specs.Map.{keys_of}
use Rattle.std.proofs.lemmas.Bool.{cases_eq}
use Rattle.ospf_types.specs.declared.prefix.Prefix.{Prefix}
use Rattle.ospf_types.specs.Network.{network_cmp}
use Rattle.ospf_types.proofs.Elements.{no_element, first_element, later_element, first_or_later, mapped_element, mapped_from}
use Rattle.route_table.specs.declared.table.Item.{Item}
use Rattle.route_table.specs.Tables.{IsChanged}
use Rattle.calculation.specs.Calculations.{CalculationValue, IsItemOf, IsTableOf}
use Rattle.event_core.specs.Following.{AreChanges, AreOtherItems}

-- two networks are one or not
same_network : (p q : Prefix) → (p ≡ q) ⊎ (p ≢ q)
same_network p q = elim (cases_eq p.address q.address) [
  | inr n ↦ inr (λ e. n (ap (λ (x : Prefix). x.address) e))
  | inl a ↦ elim (cases_eq p.length q.length) [
    | inr n ↦ inr (λ e. n (ap (λ (x : Prefix). x.length) e))
    | inl l ↦ inl (λ i. record { address = a i; length = l i })
  ]
]

-- a network is named or not
is_named : (networks : List Prefix) (p : Prefix) → Contains networks p ⊎ (Contains networks p → ⊥)
is_named [] p = inr (λ h. no_element p h)
is_named (q ∷ networks) p = elim (same_network p q) [
  | inl same ↦ inl (subst (Contains (q ∷ networks)) (sym same) (first_element q networks))
  | inr other ↦ elim (is_named networks p) [
    | inl later ↦ inl (later_element q p networks later)
    | inr none ↦ inr (λ h. ⊎_elim (λ (e : p ≡ q). other e) (λ (c : Contains networks p). none c) (first_or_later q p networks h))
  ]
]

-- a network with its item is among those whose item differs
abbrev key_in : Prefix × Option Item → Prefix
key_in e = e.0

is_listed : (items : List (Prefix × Option Item)) (p : Prefix) → ((o : Option Item) × Contains items (p, o)) ⊎ ((o : Option Item) → Contains items (p, o) → ⊥)
is_listed items p = elim (is_named (keys_of items) p) [
  | inl there ↦
      let w = mapped_from key_in items p there in
      inl (w.0.1, subst (Contains items) (λ i. (w.2 i, w.0.1)) w.1)
  | inr absent ↦ inr (λ o c. absent (mapped_element key_in items (p, o) c))
]

module _ (c d : CalculationValue) (old new : FinMap network_cmp Item) (networks : List Prefix) (items : List (Prefix × Option Item))
    (enough : (p : Prefix) (o : Option Item) → (Contains networks p → ⊥) → IsItemOf c p o → IsItemOf d p o)
    (other : AreOtherItems d old networks items) (table : IsTableOf c old) (changed : IsChanged old new items) where
  pub items_followed : IsTableOf d new
  items_followed p = elim (is_listed items p) [
    | inl w ↦ subst (IsItemOf d p) (sym (changed.given p w.0 w.1)) (other.each p w.0 w.1).1
    | inr absent ↦ subst (IsItemOf d p) (sym (changed.others p absent)) (elim (is_named networks p) [
      | inl named ↦ other.others p named absent
      | inr none ↦ enough p (get old p) none (table p)
    ])
  ]

  pub changes_followed : AreChanges old new (keys_of items)
  changes_followed = record {
    in_order = other.in_order;
    exact = λ p. (
      λ there. let w = mapped_from key_in items p there in
          let listed : Contains items (p, w.0.1) = subst (Contains items) (λ i. (w.2 i, w.0.1)) w.1 in
          λ same. (other.each p w.0.1 listed).2 (sym same ∙ changed.given p w.0.1 listed),
      λ differs. elim (is_listed items p) [
        | inl w ↦ mapped_element key_in items (p, w.0) w.1
        | inr absent ↦ absurd (differs (changed.others p absent))
      ],
    );
  }

-- where the items stay, no network's item differs
pub nothing_changes : (items : FinMap network_cmp Item) → AreChanges items items []
unfolding IsStrictlySortedBy
nothing_changes items = record { in_order = tt; exact = λ p. (λ h. absurd (no_element p h), λ other. absurd (other refl)) }
