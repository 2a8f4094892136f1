-- The offers that a choice takes, part by part.
use Rattle.std.proofs.Common.{◌≡◌, ℕ, ◌+◌, ◌<◌, ◌≤◌, List, [], ◌∷◌, ◌++◌, length, get_or, drop, Option, None, Ordering, ◌⊎◌, inl, inr, ⊎_elim, sym, ap, subst, append_assoc, append-nil, add-one, arith}
use Rattle.std.specs.Prelude.{◌↔◌}
use Rattle.std.specs.List.{Contains}
use Rattle.std.proofs.Math.Seq.{drop-cons}
use Rattle.std.proofs.lemmas.List.{drop_all}
use Rattle.std.proofs.lemmas.List.Elements.{Contains-append_left, Contains-append_right, Contains-append_cases}
use Rattle.ospf_types.proofs.Elements.{no_element, first_element, later_element, first_or_later}
use Rattle.ospf_types.proofs.InOrder.{only_item}
use Rattle.route_choice.specs.Choices.{Chosen, IsOffered, IsChosen}
use Rattle.route_choice.specs.Takes.{TakesOffers, OnlyOffer, OfferedBySome}
use Rattle.route_choice.proofs.Choosing.{same_offers}

module _ {K X : Type 0} {R : K → K → Ordering} {S : X → X → Ordering} where
  -- where nothing is offered, the choice stays
  pub takes_none : (offers : K → X → Type 0) → ((key : K) (item : X) → offers key item → ⊥) → (c : Option (Chosen K X)) → TakesOffers R S offers c c
  takes_none offers none c = record {
    list = [];
    just = λ key item. (λ h. absurd (no_element (key, item) h), λ h. absurd (none key item h));
    taken = λ before h. subst (λ all. IsChosen R S (IsOffered all) c) (sym (append-nil before)) h;
  }

  -- one offer
  pub takes_one : (at : K) (what : X) (old new : Option (Chosen K X)) → ((before : List (K × X)) → IsChosen R S (IsOffered before) old → IsChosen R S (IsOffered (before ++ (at, what) ∷ [])) new) → TakesOffers R S (OnlyOffer at what) old new
  takes_one at what old new taken = record {
    list = (at, what) ∷ [];
    just = λ key item. (
      λ h.
          let e = only_item (at, what) (key, item) h in
          (ap (λ (t : K × X). t.0) e, ap (λ (t : K × X). t.1) e),
      λ h. (0, omega arith, λ i. (sym h.0 i, sym h.1 i)),
    );
    taken = taken;
  }

  -- the same offers under another name
  pub takes_same : (a b : K → X → Type 0) → ((key : K) (item : X) → a key item ↔ b key item) → (old new : Option (Chosen K X)) → TakesOffers R S a old new → TakesOffers R S b old new
  takes_same a b same old new takes = record {
    list = takes.list;
    just = λ key item. (λ h. (same key item).0 ((takes.just key item).0 h), λ h. (takes.just key item).1 ((same key item).1 h));
    taken = takes.taken;
  }

  -- some offers, and then more
  pub takes_two : (offers more : K → X → Type 0) (old mid new : Option (Chosen K X)) → TakesOffers R S offers old mid → TakesOffers R S more mid new → TakesOffers R S (λ key item. offers key item ⊎ more key item) old new
  takes_two offers more old mid new first rest = record {
    list = first.list ++ rest.list;
    just = λ key item. (
      λ h. ⊎_elim (λ (c : Contains first.list (key, item)). inl ((first.just key item).0 c)) (λ (c : Contains rest.list (key, item)). inr ((rest.just key item).0 c)) (Contains-append_cases first.list rest.list (key, item) h),
      λ w. ⊎_elim (λ (h : offers key item). Contains-append_left first.list rest.list (key, item) ((first.just key item).1 h)) (λ (h : more key item). Contains-append_right first.list rest.list (key, item) ((rest.just key item).1 h)) w,
    );
    taken = λ before h. subst (λ all. IsChosen R S (IsOffered all) new) (append_assoc before first.list rest.list) (rest.taken (before ++ first.list) (first.taken before h));
  }

  -- from nothing on, what is taken is what is chosen from
  pub taken_chosen : (offers : K → X → Type 0) (c : Option (Chosen K X)) → TakesOffers R S offers None c → IsChosen R S offers c
  taken_chosen offers c takes =
      same_offers R S (IsOffered takes.list) offers (λ key item h. (takes.just key item).0 h) (λ key item h. (takes.just key item).1 h) c
      (takes.taken [] (λ key item h. no_element (key, item) h))

  module _ {A : Type 0} (offers : A → K → X → Type 0) where
    -- no element offers anything
    pub takes_nil : (c : Option (Chosen K X)) → TakesOffers R S (OfferedBySome [] offers) c c
    takes_nil c = takes_none (OfferedBySome [] offers) (λ key item h. no_element h.0 h.1) c

    -- the offers of the first, and then those of the rest
    pub takes_cons : (a : A) (xs : List A) (old mid new : Option (Chosen K X)) → TakesOffers R S (offers a) old mid → TakesOffers R S (OfferedBySome xs offers) mid new → TakesOffers R S (OfferedBySome (a ∷ xs) offers) old new
    takes_cons a xs old mid new first rest =
        takes_same (λ key item. offers a key item ⊎ OfferedBySome xs offers key item) (OfferedBySome (a ∷ xs) offers)
        (λ key item. (
          λ h. ⊎_elim (λ (o : offers a key item). (a, first_element a xs, o)) (λ (w : OfferedBySome xs offers key item). (w.0, later_element a w.0 xs w.1, w.2)) h,
          λ w. ⊎_elim (λ (e : w.0 ≡ a). inl (subst (λ b. offers b key item) e w.2)) (λ (c : Contains xs w.0). inr (w.0, c, w.2)) (first_or_later a w.0 xs w.1),
        ))
        old new (takes_two (offers a) (OfferedBySome xs offers) old mid new first rest)

    -- the offers of the element at the place, and then those of the elements after it
    pub takes_at : (xs : List A) (k : ℕ) (d : A) (old mid new : Option (Chosen K X)) → k < length xs → TakesOffers R S (offers (get_or xs k d)) old mid → TakesOffers R S (OfferedBySome (drop (k + 1) xs) offers) mid new → TakesOffers R S (OfferedBySome (drop k xs) offers) old new
    takes_at xs k d old mid new lt first rest =
        let e : drop k xs ≡ get_or xs k d ∷ drop (k + 1) xs = rw add-one (drop-cons xs k d lt) in
        subst (λ bs. TakesOffers R S (OfferedBySome bs offers) old new) (sym e) (takes_cons (get_or xs k d) (drop (k + 1) xs) old mid new first rest)

    pub takes_past : (xs : List A) (k : ℕ) (c : Option (Chosen K X)) → length xs ≤ k → TakesOffers R S (OfferedBySome (drop k xs) offers) c c
    takes_past xs k c le = subst (λ bs. TakesOffers R S (OfferedBySome bs offers) c c) (sym (drop_all k xs le)) (takes_nil c)
