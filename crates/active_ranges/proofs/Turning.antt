-- The notes of prefixes, and the prefixes for which they no longer hold.
use Rattle.std.proofs.Common.{◌≡◌, ℕ, ◌+◌, ◌<◌, ◌≤◌, List, [], ◌∷◌, ◌++◌, map, length, take, drop, get_or, sym, ap, subst, ◌∙◌, inl, inr}
use Rattle.std.specs.Prelude.{◌↔◌, Contains}
use Rattle.std.proofs.lemmas.List.{drop_more, map-append, take_more}
use Rattle.std.proofs.lemmas.List.Elements.{Contains-push_cases}
use Rattle.ospf_types.specs.declared.prefix.Prefix.{Prefix}
use Rattle.ospf_types.specs.Network.{network_cmp}
use Rattle.ospf_types.proofs.Elements.{no_element}
use Rattle.ospf_types.proofs.Orders.{network_total, network_exact}
use Rattle.route_choice.specs.Lists.{IsOfSome}
use Rattle.active_ranges.specs.Active.{ActiveValue}
use Rattle.active_ranges.specs.Following.{HasMore, HasTurned, IsNotedOf, IsChangeReported}
use Rattle.active_ranges.specs.declared.active.Noted.{Noted}
use Rattle.active_ranges.proofs.Ascending.{IsAscending, ascending_passed, ascending_pushed}
use Rattle.route_choice.proofs.Adding.{more_none, more_one, more_next, more_all}

abbrev prefixes : List Noted → List Prefix
prefixes = map (λ (n : Noted). n.prefix)

-- what is noted of the prefix is no longer so
abbrev pub HasTurnedAt : ActiveValue → Noted → Prefix → Type 0
HasTurnedAt v n p = (n.prefix ≡ p) × HasTurned v n

module _ (v : ActiveValue) (noted : List Noted) (i : ℕ) (n : Noted) (lt : i < length noted) (at : n ≡ get_or noted i n) (before after : List Prefix) (told : IsChangeReported v n before after) where
  -- one more is reported, or left out
  pub ascending_told : IsAscending network_cmp before (map (λ (m : Noted). m.prefix) (drop i noted)) → IsAscending network_cmp after (map (λ (m : Noted). m.prefix) (drop (i + 1) noted))
  ascending_told are =
      let left : drop i noted ≡ n ∷ drop (i + 1) noted = drop_more noted i n lt ∙ ap (λ (m : Noted). m ∷ drop (i + 1) noted) (sym at) in
      let rest = prefixes (drop (i + 1) noted) in
      let was : IsAscending network_cmp before (n.prefix ∷ rest) = subst (λ (ns : List Noted). IsAscending network_cmp before (prefixes ns)) left are in
      elim told [
        | inl same ↦ subst (λ (ps : List Prefix). IsAscending network_cmp ps rest) (sym same.0) (ascending_passed network_cmp before rest n.prefix was)
        | inr pushed ↦ subst (λ (ps : List Prefix). IsAscending network_cmp ps rest) (sym pushed.0) (ascending_pushed network_cmp network_total network_exact before rest n.prefix was)
      ]

  -- and just what has turned
  more_told : HasMore (HasTurnedAt v n) before after
  more_told = elim told [
    | inl same ↦ subst (λ (ps : List Prefix). HasMore (HasTurnedAt v n) before ps) (sym same.0) (more_none (HasTurnedAt v n) before (λ p has. same.1 has.1))
    | inr pushed ↦ more_one (HasTurnedAt v n) before after n.prefix pushed.0 (λ p. (λ has. sym has.0, λ e. (sym e, pushed.1)))
  ]

  pub exact_told : HasMore (IsOfSome (take i noted) (HasTurnedAt v)) [] before → HasMore (IsOfSome (take (i + 1) noted) (HasTurnedAt v)) [] after
  exact_told first = more_next (HasTurnedAt v) noted i n [] before after lt at first more_told

-- all are reported
pub all_told : (v : ActiveValue) (noted : List Noted) (i : ℕ) (listed : List Prefix) → length noted ≤ i → HasMore (IsOfSome (take i noted) (HasTurnedAt v)) [] listed
    → (p : Prefix) → Contains listed p ↔ ((n : Noted) × Contains noted n × (n.prefix ≡ p) × HasTurned v n)
all_told v noted i listed past more p =
    let all = more_all (HasTurnedAt v) noted i [] listed past more p in (
      λ c. elim (all.0 c) [ inl none ↦ absurd (no_element p none) | inr w ↦ (w.0, w.1, w.2.0, w.2.1) ],
      λ w. all.1 (inr (w.0, w.1, (w.2, w.3))),
    )

-- ---- notes

pub listed_more : (ps : List Prefix) (i : ℕ) (p : Prefix) (before after : List Noted) (n : Noted) → i < length ps → p ≡ get_or ps i p → after ≡ before ++ n ∷ [] → n.prefix ≡ p → map (λ (m : Noted). m.prefix) before ≡ take i ps
    → map (λ (m : Noted). m.prefix) after ≡ take (i + 1) ps
listed_more ps i p before after n lt at pushed of so_far =
    ap prefixes pushed ∙ map-append (λ (m : Noted). m.prefix) before (n ∷ []) ∙ (λ j. so_far j ++ (of ∙ at) j ∷ []) ∙ sym (take_more ps i p lt)

pub noted_more : (v : ActiveValue) (before after : List Noted) (n : Noted) → after ≡ before ++ n ∷ [] → IsNotedOf v n → ((m : Noted) → Contains before m → IsNotedOf v m) → (m : Noted) → Contains after m → IsNotedOf v m
noted_more v before after n pushed here were m c = elim (Contains-push_cases before n m (subst (λ (ns : List Noted). Contains ns m) pushed c)) [ inl was ↦ were m was | inr e ↦ subst (λ (x : Noted). IsNotedOf v x) e here ]
