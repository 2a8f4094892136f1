-- A routing table is filled, network by network.
use Rattle.std.proofs.Common.{◌≡◌, ℕ, ◌+◌, ◌<◌, true, false, cond, List, [], ◌∷◌, ◌++◌, length, get_or, take, Option, Some, None, sym, ap, subst, ◌∙◌, ◌⊎◌, inl, inr, ⊎_elim, refl}
use Rattle.std.specs.declared.cmp.Ordering.TheVariants.{Less, Equal, Greater}
use Rattle.std.specs.Ordering.{is_eq}
use Rattle.std.specs.List.{Contains}
use Rattle.std.specs.FinMap.{FinMap, get, insert, empty, get-insert, get-empty}
use Rattle.std.proofs.lemmas.Cmp.{tied_itself}
use Rattle.std.proofs.lemmas.List.{take_more}
use Rattle.std.proofs.lemmas.List.Elements.{Contains-push_cases}
use Rattle.ospf_types.specs.declared.prefix.Prefix.{Prefix}
use Rattle.ospf_types.specs.Network.{network_cmp}
use Rattle.ospf_types.proofs.Elements.{no_element}
use Rattle.ospf_types.proofs.Orders.{network_total, network_exact}

module _ {X : Type 0} (IsWanted : Prefix → Option X → Type 0) where
  -- the map has what is wanted, but for what has nothing yet and is not among these networks
  abbrev pub AreFilled : List Prefix → FinMap network_cmp X → Type 0
  AreFilled networks items = (p : Prefix) → IsWanted p (get items p) ⊎ ((Contains networks p → ⊥) × (get items p ≡ None))

  pub none_filled : AreFilled [] empty
  none_filled p = inr (λ c. no_element p c, get-empty network_cmp p)

  same_or_other : (p q : Prefix) → (p ≡ q) ⊎ (is_eq (network_cmp p q) ≡ false)
  same_or_other p q =
      elim (network_cmp p q) as (λ o. network_cmp p q ≡ o → (p ≡ q) ⊎ (is_eq (network_cmp p q) ≡ false)) [
        | Less ↦ λ e. inr (ap is_eq e)
        | Equal ↦ λ e. inl (network_exact p q e)
        | Greater ↦ λ e. inr (ap is_eq e)
      ] refl

  not_itself : (p q : Prefix) → is_eq (network_cmp p q) ≡ false → q ≡ p → ⊥
  not_itself p q other e =
      let tie : is_eq (network_cmp p p) ≡ true = ap is_eq (tied_itself network_total p) in
      let same : is_eq (network_cmp p p) ≡ false = subst (λ (x : Prefix). is_eq (network_cmp p x) ≡ false) e other in
      cc

  module _ (networks : List Prefix) (items : FinMap network_cmp X) (q : Prefix) (are : AreFilled networks items) where
    not_more : (p : Prefix) → is_eq (network_cmp p q) ≡ false → (Contains networks p → ⊥) → Contains (networks ++ q ∷ []) p → ⊥
    not_more p other not c = ⊎_elim (λ (before : Contains networks p). not before) (λ (now : q ≡ p). not_itself p q other now) (Contains-push_cases networks q p c)

    filled_more : (x : X) → IsWanted q (Some x) → AreFilled (networks ++ q ∷ []) (insert items q x)
    filled_more x is p =
        elim (same_or_other p q) [
          | inl e ↦
              let tie : is_eq (network_cmp p q) ≡ true = subst (λ (r : Prefix). is_eq (network_cmp p r) ≡ true) e (ap is_eq (tied_itself network_total p)) in
              let put : get (insert items q x) p ≡ Some x = get-insert network_total items q x p ∙ ap (λ b. cond b (Some x) (get items p)) tie in
              inl (subst (IsWanted p) (sym put) (subst (λ (r : Prefix). IsWanted r (Some x)) (sym e) is))
          | inr other ↦
              let kept : get (insert items q x) p ≡ get items p = get-insert network_total items q x p ∙ ap (λ b. cond b (Some x) (get items p)) other in
              elim (are p) [ inl has ↦ inl (subst (IsWanted p) (sym kept) has) | inr none ↦ inr (not_more p other none.0, kept ∙ none.1) ]
        ]

    none_more : IsWanted q None → AreFilled (networks ++ q ∷ []) items
    none_more is p =
        elim (are p) [
          | inl has ↦ inl has
          | inr none ↦ elim (same_or_other p q) [
            | inl e ↦ inl (subst (IsWanted p) (sym none.1) (subst (λ (r : Prefix). IsWanted r None) (sym e) is))
            | inr other ↦ inr (not_more p other none.0, none.1)
          ]
        ]

  module _ (networks : List Prefix) (items : FinMap network_cmp X) (i : ℕ) (q : Prefix) (lt : i < length networks) (here : q ≡ get_or networks i q) (are : AreFilled (take i networks) items) where
    step : take (i + 1) networks ≡ take i networks ++ q ∷ []
    step = take_more networks i q lt ∙ ap (λ (p : Prefix). take i networks ++ p ∷ []) (sym here)

    pub one_filled : (x : X) → IsWanted q (Some x) → AreFilled (take (i + 1) networks) (insert items q x)
    one_filled x is = subst (λ list. AreFilled list (insert items q x)) (sym step) (filled_more (take i networks) items q are x is)

    pub one_empty : IsWanted q None → AreFilled (take (i + 1) networks) items
    one_empty is = subst (λ list. AreFilled list items) (sym step) (none_more (take i networks) items q are is)

  -- all has what is wanted, where nothing is wanted of the other networks
  pub all_filled : (networks : List Prefix) (items : FinMap network_cmp X) → AreFilled networks items → ((p : Prefix) → (Contains networks p → ⊥) → IsWanted p None) → (p : Prefix) → IsWanted p (get items p)
  all_filled networks items are others p = elim (are p) [ inl has ↦ has | inr none ↦ subst (IsWanted p) (sym none.1) (others p none.0) ]
