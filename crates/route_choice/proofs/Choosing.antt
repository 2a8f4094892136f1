-- One more offer, and what is chosen then.
use Rattle.std.proofs.Common.{◌≡◌, ◌≢◌, List, [], ◌∷◌, ◌++◌, Option, Some, None, Ordering, refl, sym, ap, subst, ◌∙◌, inl, inr, ⊎_elim, ◌⊎◌, arith}
use Rattle.std.specs.declared.cmp.Ordering.TheVariants.{Less, Equal, Greater}
use Rattle.std.specs.Ordering.{ordering_reverse}
use Rattle.std.specs.Cmp.{IsTotalOrder}
use Rattle.std.specs.FinMap.{IsAntisymmetric}
use Rattle.std.specs.List.{Contains}
use Rattle.std.specs.List.Sorted.{IsStrictlySortedBy}
use Rattle.std.proofs.lemmas.Cmp.{tied_itself}
use Rattle.std.proofs.lemmas.List.Elements.{Contains-append_left, Contains-push, Contains-push_cases}
use Rattle.ospf_types.specs.Best.{IsBest}
use Rattle.ospf_types.proofs.InOrder.{only_item}
use Rattle.route_choice.specs.Choices.{Chosen, HasAlso, IsOffered, IsChosen}

-- new has the offers of old, and this one
record Adds {K X : Type 0} (old new : K → X → Type 0) (key : K) (item : X) : Type 0 where
  kept : (k : K) (x : X) → old k x → new k x
  added : new key item
  only : (k : K) (x : X) → new k x → old k x ⊎ ((k ≡ key) × (x ≡ item))

-- an offer at the end of a list is one more
offered_adds : {K X : Type 0} (offers : List (K × X)) (key : K) (item : X) → Adds (IsOffered offers) (IsOffered (offers ++ (key, item) ∷ [])) key item
offered_adds {K} {X} offers key item = record {
  kept = λ k x h. Contains-append_left offers _ (k, x) h;
  added = Contains-push offers (key, item);
  only = λ k x h. ⊎_elim (λ (c : Contains offers (k, x)). inl c) (λ (e : (key, item) ≡ (k, x)). inr (sym (ap (λ (t : K × X). t.0) e), sym (ap (λ (t : K × X). t.1) e))) (Contains-push_cases offers (key, item) (k, x) h);
}

module _ {K X : Type 0} (R : K → K → Ordering) (S : X → X → Ordering) where
  -- the same offers have the same choice
  pub same_offers : (old new : K → X → Type 0) → ((k : K) (x : X) → old k x → new k x) → ((k : K) (x : X) → new k x → old k x) → (c : Option (Chosen K X)) → IsChosen R S old c → IsChosen R S new c
  same_offers old new there back None h = λ k x offer. h k x (back k x offer)
  same_offers old new there back (Some c) h = (
    record {
      stands = (h.0.stands.0, there _ _ h.0.stands.1);
      least = λ k x offer. h.0.least k x (back k x offer);
      union = λ x. (λ c. there _ x ((h.0.union x).0 c), λ offer. (h.0.union x).1 (back _ x offer));
    },
    h.1,
  )

module _ {K X : Type 0} (R : K → K → Ordering) (S : X → X → Ordering) (o : IsTotalOrder R) (exact : IsAntisymmetric R) where
  never_below_itself : (k : K) → R k k ≢ Less
  never_below_itself k e = let t = tied_itself o k in cc

  not_below : (k j : K) → R k j ≡ Less → R j k ≢ Less
  not_below k j e f = let t : R j k ≡ Greater = o.antisymm j k ∙ ap ordering_reverse e in cc

  -- what is below a least key is below each key that isn't below that one
  below_least : (key least k : K) → R key least ≡ Less → R k least ≢ Less → R key k ≡ Less
  below_least key least k e not_less =
      elim (R k least) as (λ r. R k least ≡ r → R key k ≡ Less) [
        | Less ↦ λ is. absurd (not_less is)
        | Equal ↦ λ is. subst (λ j. R key j ≡ Less) (sym (exact k least is)) e
        | Greater ↦ λ is. o.trans key least k e (o.antisymm least k ∙ ap ordering_reverse is)
      ] refl

  module _ (old new : K → X → Type 0) (key : K) (item : X) (adds : Adds old new key item) where
    -- the new offer alone, where each other is at a greater key
    alone : ((k : K) (x : X) → old k x → R key k ≡ Less) → IsChosen R S new (Some (record { key = key; items = item ∷ [] }))
    unfolding IsStrictlySortedBy
    alone greater = (
      record {
        stands = (item, adds.added);
        least = λ k x offer. ⊎_elim (λ (h : old k x). not_below key k (greater k x h)) (λ (h : (k ≡ key) × (x ≡ item)). subst (λ j. R j key ≢ Less) (sym h.0) (never_below_itself key)) (adds.only k x offer);
        union = λ x. (
          λ c. subst (new key) (sym (only_item item x c)) adds.added,
          λ offer. ⊎_elim (λ (h : old key x). absurd (never_below_itself key (greater key x h))) (λ (h : (key ≡ key) × (x ≡ item)). (0, omega arith, sym h.1)) (adds.only key x offer),
        );
      },
      (tt, tt),
    )

    -- one more offer at the key
    joined : (items more : List X) → HasAlso items item more → IsBest R old key items → IsBest R new key more
    joined items more also best = record {
      stands = (item, adds.added);
      least = λ k x offer. ⊎_elim (λ (h : old k x). best.least k x h) (λ (h : (k ≡ key) × (x ≡ item)). subst (λ j. R j key ≢ Less) (sym h.0) (never_below_itself key)) (adds.only k x offer);
      union = λ x. (
        λ c. ⊎_elim (λ (h : Contains items x). adds.kept key x ((best.union x).0 h)) (λ (e : x ≡ item). subst (new key) (sym e) adds.added) ((also x).0 c),
        λ offer. (also x).1 (⊎_elim (λ (h : old key x). inl ((best.union x).1 h)) (λ (h : (key ≡ key) × (x ≡ item)). inr h.1) (adds.only key x offer)),
      );
    }

    -- an offer at a greater key
    passed : (c : Chosen K X) → R key c.key ≡ Greater → IsBest R old c.key c.items → IsBest R new c.key c.items
    passed c is best = record {
      stands = (best.stands.0, adds.kept _ _ best.stands.1);
      least = λ k x offer. ⊎_elim (λ (h : old k x). best.least k x h) (λ (h : (k ≡ key) × (x ≡ item)). subst (λ j. R j c.key ≢ Less) (sym h.0) (λ e. let both = is in cc)) (adds.only k x offer);
      union = λ x. (
        λ h. adds.kept c.key x ((best.union x).0 h),
        λ offer. ⊎_elim (λ (h : old c.key x). (best.union x).1 h) (λ (h : (c.key ≡ key) × (x ≡ item)). let t : R key c.key ≡ Equal = subst (λ j. R key j ≡ Equal) (sym h.0) (tied_itself o key) in absurd cc) (adds.only c.key x offer),
      );
    }

    -- what takes one more offer as `Choice::offer` does chooses from the offers with this one
    more : (c d : Chosen K X) (lesser : R key c.key ≡ Less → d ≡ record { key = key; items = item ∷ [] }) (tied : R key c.key ≡ Equal → (d.key ≡ c.key) × HasAlso c.items item d.items) (greater : R key c.key ≡ Greater → d ≡ c) (in_order : IsStrictlySortedBy S c.items → IsStrictlySortedBy S d.items) → IsChosen R S old (Some c) → IsChosen R S new (Some d)
    more c d lesser tied greater in_order h =
        elim (R key c.key) as (λ r. R key c.key ≡ r → IsChosen R S new (Some d)) [
          | Less ↦ λ is. subst (λ e. IsChosen R S new (Some e)) (sym (lesser is)) (alone (λ k x offer. below_least key c.key k is (h.0.least k x offer)))
          | Equal ↦ λ is.
              let same : key ≡ c.key = exact key c.key is in
              let best : IsBest R new key d.items = joined c.items d.items (tied is).1 (subst (λ k. IsBest R old k c.items) (sym same) h.0) in
              (subst (λ k. IsBest R new k d.items) (same ∙ sym (tied is).0) best, in_order h.1)
          | Greater ↦ λ is. subst (λ e. IsChosen R S new (Some e)) (sym (greater is)) (passed c is h.0, h.1)
        ] refl

  module _ (key : K) (item : X) (offers : List (K × X)) where
    -- a first offer
    pub chosen_first : IsChosen R S (IsOffered offers) None → IsChosen R S (IsOffered (offers ++ (key, item) ∷ [])) (Some (record { key = key; items = item ∷ [] }))
    chosen_first nothing = alone (IsOffered offers) (IsOffered (offers ++ (key, item) ∷ [])) key item (offered_adds offers key item) (λ k x offer. absurd (nothing k x offer))

    -- one more offer
    pub chosen_more : (b c : Chosen K X) (lesser : R key b.key ≡ Less → c ≡ record { key = key; items = item ∷ [] }) (tied : R key b.key ≡ Equal → (c.key ≡ b.key) × HasAlso b.items item c.items) (greater : R key b.key ≡ Greater → c ≡ b) (in_order : IsStrictlySortedBy S b.items → IsStrictlySortedBy S c.items) → IsChosen R S (IsOffered offers) (Some b) → IsChosen R S (IsOffered (offers ++ (key, item) ∷ [])) (Some c)
    chosen_more b c lesser tied greater in_order =
        more (IsOffered offers) (IsOffered (offers ++ (key, item) ∷ [])) key item (offered_adds offers key item) b c lesser tied greater in_order
