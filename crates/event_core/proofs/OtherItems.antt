-- The items that the table is to have, gathered network by network.
use Rattle.std.proofs.Common.{◌≡◌, ◌≢◌, ℕ, suc, ◌+◌, ◌<◌, ◌≤◌, List, [], ◌∷◌, ◌++◌, append_assoc, length, get_or, take, drop, Option, Some, sym, ap, subst, ◌∙◌, ◌⊎◌, inl, inr, refl, add-one, drop-cons}
use Rattle.std.specs.FinMap.{FinMap, get}
use Rattle.std.specs.List.{Contains}
use Rattle.std.specs.List.Sorted.{IsStrictlySortedBy}
use Rattle.std.specs.Map.{keys_of}
use Rattle.std.proofs.lemmas.List.{take_all, drop_all}
use Rattle.std.proofs.lemmas.List.Elements.{Contains-push, Contains-push_cases, Contains-append_left}
use Rattle.ospf_types.specs.declared.prefix.Prefix.{Prefix}
use Rattle.ospf_types.specs.Network.{network_cmp}
use Rattle.ospf_types.proofs.Elements.{no_element, contains_more}
use Rattle.route_choice.proofs.ChosenAnew.{sorted_without}
use Rattle.route_table.specs.declared.table.Item.{Item}
use Rattle.calculation.specs.Calculations.{CalculationValue, IsItemOf, IsNewItemOf}
use Rattle.event_core.specs.Following.{AreOtherItems, IsItemAdded}

-- this many first networks are done
pub record AreOthersTo (c : CalculationValue) (table : FinMap network_cmp Item) (networks : List Prefix) (count : ℕ) (items : List (Prefix × Option Item)) : Type 0 where
  pub in_order : IsStrictlySortedBy network_cmp (keys_of items ++ drop count networks)
  pub each : (p : Prefix) (item : Option Item) → Contains items (p, item) → Contains (take count networks) p × IsItemOf c p item × (get table p ≢ item)
  pub others : (p : Prefix) → Contains (take count networks) p → ((item : Option Item) → Contains items (p, item) → ⊥) → IsItemOf c p (get table p)

module _ (c : CalculationValue) (table : FinMap network_cmp Item) (networks : List Prefix) where
  pub others_none : IsStrictlySortedBy network_cmp networks → AreOthersTo c table networks 0 []
  others_none sorted = record {
    in_order = sorted;
    each = λ p item h. absurd (no_element (p, item) h);
    others = λ p h. absurd (no_element p h);
  }

  pub others_all : (count : ℕ) (items : List (Prefix × Option Item)) → length networks ≤ count → AreOthersTo c table networks count items → AreOtherItems c table networks items
  others_all count items past done =
      let all : take count networks ≡ networks = take_all count networks past in
      let none : drop count networks ≡ [] = drop_all count networks past in
      record {
        in_order = subst (IsStrictlySortedBy network_cmp) (ap (λ (ps : List Prefix). keys_of items ++ ps) none ∙ append_nil (keys_of items)) done.in_order;
        each = λ p item h. let w = done.each p item h in (subst (λ (ps : List Prefix). Contains ps p) all w.0, w.1, w.2);
        others = λ p named. done.others p (subst (λ (ps : List Prefix). Contains ps p) (sym all) named);
      }
    where
      append_nil : (ps : List Prefix) → ps ++ [] ≡ ps
      append_nil [] = refl
      append_nil (p ∷ ps) = ap (λ (qs : List Prefix). p ∷ qs) (append_nil ps)

  module _ (i : ℕ) (p : Prefix) (lt : i < length networks) (at : p ≡ get_or networks i p) (before after : List (Prefix × Option Item)) (first : AreOthersTo c table networks i before) where
    more : (q : Prefix) → Contains (take (i + 1) networks) q → Contains (take i networks) q ⊎ (q ≡ p)
    more q = (contains_more networks i p q lt at).0

    left : drop i networks ≡ p ∷ drop (i + 1) networks
    left = rw (add-one) (drop-cons networks i p lt ∙ ap (λ (x : Prefix). x ∷ drop (suc i) networks) (sym at))

    whole : IsStrictlySortedBy network_cmp (keys_of before ++ (p ∷ drop (i + 1) networks))
    whole = subst (λ (ps : List Prefix). IsStrictlySortedBy network_cmp (keys_of before ++ ps)) left first.in_order

    early : (q : Prefix) → Contains (take i networks) q → Contains (take (i + 1) networks) q
    early q h = (contains_more networks i p q lt at).1 (inl h)

    stays : after ≡ before → IsItemOf c p (get table p) → AreOthersTo c table networks (i + 1) after
    stays same is = subst (AreOthersTo c table networks (i + 1)) (sym same) (record {
      in_order = sorted_without network_cmp (keys_of before) p (drop (i + 1) networks) whole;
      each = λ q item h. let w = first.each q item h in (early q w.0, w.1, w.2);
      others = λ q named absent. elim (more q named) [
        | inl was ↦ first.others q was absent
        | inr e ↦ subst (λ (x : Prefix). IsItemOf c x (get table x)) (sym e) is
      ];
    })

    joins : (item : Option Item) → after ≡ before ++ (p, item) ∷ [] → IsItemOf c p item → get table p ≢ item → AreOthersTo c table networks (i + 1) after
    joins item pushed is differs =
        let keys : keys_of (before ++ (p, item) ∷ []) ≡ keys_of before ++ p ∷ [] = keys_pushed before in
        subst (AreOthersTo c table networks (i + 1)) (sym pushed) (record {
          in_order = subst (λ (ps : List Prefix). IsStrictlySortedBy network_cmp (ps ++ drop (i + 1) networks)) (sym keys)
              (subst (IsStrictlySortedBy network_cmp) (sym (append_assoc (keys_of before) (p ∷ []) (drop (i + 1) networks))) whole);
          each = λ q o h. elim (Contains-push_cases before (p, item) (q, o) h) [
            | inl was ↦ let w = first.each q o was in (early q w.0, w.1, w.2)
            | inr e ↦
                let qp : q ≡ p = sym (ap (λ (x : Prefix × Option Item). x.0) e) in
                let oi : o ≡ item = sym (ap (λ (x : Prefix × Option Item). x.1) e) in
                ((contains_more networks i p q lt at).1 (inr qp), subst (λ (x : Prefix). IsItemOf c x o) (sym qp) (subst (IsItemOf c p) (sym oi) is), λ same. differs (ap (λ (x : Prefix). get table x) (sym qp) ∙ same ∙ oi))
          ];
          others = λ q named absent. elim (more q named) [
            | inl was ↦ first.others q was (λ o h. absent o (Contains-append_left before ((p, item) ∷ []) (q, o) h))
            | inr e ↦ absurd (absent item (subst (λ (x : Prefix). Contains (before ++ (p, item) ∷ []) (x, item)) (sym e) (Contains-push before (p, item))))
          ];
        })
      where
        keys_pushed : (es : List (Prefix × Option Item)) → keys_of (es ++ (p, item) ∷ []) ≡ keys_of es ++ p ∷ []
        keys_pushed [] = refl
        keys_pushed (e ∷ es) = ap (λ (ps : List Prefix). e.0 ∷ ps) (keys_pushed es)

    -- one network more
    pub others_more : IsItemAdded c table p before after → AreOthersTo c table networks (i + 1) after
    others_more step = elim step [ inl same ↦ stays same.0 same.1 | inr new ↦ joins new.0 new.1 new.2 new.3 ]

-- a new item is one more
pub one_more : (c : CalculationValue) (table : FinMap network_cmp Item) (p : Prefix) (before after : List (Prefix × Option Item)) (new : Prefix × Option Item) → after ≡ before ++ new ∷ [] → IsNewItemOf c table p (Some new) → IsItemAdded c table p before after
one_more c table p before after new pushed is = inr (new.1, pushed ∙ ap (λ (q : Prefix). before ++ (q, new.1) ∷ []) is.0, is.1, is.2)
