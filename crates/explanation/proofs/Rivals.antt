-- The least key of the offers, and the Link State ID of a transit network among them, one offer
-- after the other.
use Rattle.std.proofs.Common.{◌≡◌, ◌⊎◌, ◌<◌, ◌≤◌, ◌+◌, ℕ, List, Option, Some, None, take, length, get_or, refl, sym, ap, subst, ◌∙◌, inl, inr, arith}
use Rattle.std.specs.Prelude.{unwrap_or}
use Rattle.ospf_types.proofs.Elements.{contains_more, no_element}
use Rattle.ospf_types.specs.declared.entry.Entry.{Entry}
use Rattle.explanation.specs.declared.layers.Layers.{Layers}
use Rattle.explanation.specs.declared.offer.Offer.{Offer}
use Rattle.explanation.specs.declared.offered.ExternalKey.{ExternalKey}
use Rattle.explanation.specs.Judging.{HasExternalKey, HasNoKey, IsGreater, IsGreatestId, IsLeastKey, IsLesser, IsTransitAt, IsWeighedBy, rank}

pub some_same : {A : Type 0} (x y : A) → Some x ≡ Some y → x ≡ y
some_same x y e = ap (λ o. unwrap_or o x) e

-- the key that is found is no greater than either, and is one of them
below_key : (least : Option ExternalKey) (key found : ExternalKey) → IsLesser least key found → rank found ≤ rank key
below_key None key found same = let e = ap rank same in omega (arith, e)
below_key (Some other) key found lesser = lesser.1

below_least : (least : Option ExternalKey) (key found : ExternalKey) → IsLesser least key found → (other : ExternalKey) → least ≡ Some other → rank found ≤ rank other
below_least None key found same other e = absurd cc
below_least (Some one) key found lesser other e = subst (λ (k : ExternalKey). rank found ≤ rank k) (some_same one other e) lesser.0

either : (least : Option ExternalKey) (key found : ExternalKey) → IsLesser least key found → (least ≡ Some found) ⊎ (found ≡ key)
either None key found same = inr same
either (Some one) key found lesser = elim lesser.2 [ inl same ↦ inl (ap Some (sym same)) | inr same ↦ inr same ]

module _ (w : Layers) where
  pub no_key : (offers : List Offer) → IsLeastKey w (take 0 offers) None
  no_key offers = record {
    no_greater = λ o c. absurd (no_element o c);
    one = λ key e. absurd cc;
  }

  lighter : (least : Option ExternalKey) (found : ExternalKey) → ((other : ExternalKey) → least ≡ Some other → rank found ≤ rank other) → (o : Offer) → IsWeighedBy w least o → IsWeighedBy w (Some found) o
  lighter least found below o (inl has) =
      let one : rank found ≤ rank has.1 = below has.1 has.3 in
      let two : rank has.1 ≤ rank has.0 = has.4 in
      inl (has.0, found, has.2, refl, omega (arith, one, two))
  lighter least found below o (inr none) = inr none

  pub more_key : (offers : List Offer) (i : ℕ) (o : Offer) (least : Option ExternalKey) (key found : ExternalKey) → i < length offers → o ≡ get_or offers i o
      → IsLeastKey w (take i offers) least → HasExternalKey w o.kind o key → IsLesser least key found → IsLeastKey w (take (i + 1) offers) (Some found)
  more_key offers i o least key found lt is are has lesser = record {
    no_greater = λ x c. elim ((contains_more offers i o x lt is).0 c) [
      | inl before ↦ lighter least found (below_least least key found lesser) x (are.no_greater x before)
      | inr here ↦ subst (IsWeighedBy w (Some found)) (sym here) (inl (key, found, has, refl, below_key least key found lesser))
    ];
    one = λ k e. let same = some_same found k e in elim (either least key found lesser) [
      | inl old ↦ let was = are.one found old in (was.0, (contains_more offers i o was.0 lt is).1 (inl was.1), subst (HasExternalKey w was.0.kind was.0) same was.2)
      | inr new ↦ (o, (contains_more offers i o o lt is).1 (inr refl), subst (HasExternalKey w o.kind o) (sym new ∙ same) has)
    ];
  }

  pub same_key : (offers : List Offer) (i : ℕ) (o : Offer) (least : Option ExternalKey) → i < length offers → o ≡ get_or offers i o
      → IsLeastKey w (take i offers) least → HasNoKey w o.kind o → IsLeastKey w (take (i + 1) offers) least
  same_key offers i o least lt is are none = record {
    no_greater = λ x c. elim ((contains_more offers i o x lt is).0 c) [
      | inl before ↦ are.no_greater x before
      | inr here ↦ subst (IsWeighedBy w least) (sym here) (inr none)
    ];
    one = λ k e. let was = are.one k e in (was.0, (contains_more offers i o was.0 lt is).1 (inl was.1), was.2);
  }

  module _ (e : Entry) where
    pub no_id : (offers : List Offer) → IsGreatestId w e (take 0 offers) None
    no_id offers = record {
      no_greater = λ o c at. absurd (no_element o c);
      one = λ id eq. absurd cc;
    }

    above_new : (greatest : Option ℕ) (id found : ℕ) → IsGreater greatest id found → id ≤ found
    above_new None id found same = omega (arith, same)
    above_new (Some one) id found greater = greater.1

    above_old : (greatest : Option ℕ) (id found other : ℕ) → IsGreater greatest id found → greatest ≡ Some other → other ≤ found
    above_old None id found other greater eq = absurd cc
    above_old (Some one) id found other greater eq = subst (λ (k : ℕ). k ≤ found) (some_same one other eq) greater.0

    one_of : (greatest : Option ℕ) (id found : ℕ) → IsGreater greatest id found → (greatest ≡ Some found) ⊎ (found ≡ id)
    one_of None id found same = inr same
    one_of (Some one) id found greater = elim greater.2 [ inl same ↦ inl (ap Some (sym same)) | inr same ↦ inr same ]

    pub more_id : (offers : List Offer) (i : ℕ) (o : Offer) (greatest : Option ℕ) (found : ℕ) → i < length offers → o ≡ get_or offers i o
        → IsGreatestId w e (take i offers) greatest → IsTransitAt w e o → IsGreater greatest o.source.key.id found → IsGreatestId w e (take (i + 1) offers) (Some found)
    more_id offers i o greatest found lt is are at greater = record {
      no_greater = λ x c at_x. elim ((contains_more offers i o x lt is).0 c) [
        | inl before ↦
            let was = are.no_greater x before at_x in
            let below : x.source.key.id ≤ was.0 = was.2 in
            let above : was.0 ≤ found = above_old greatest o.source.key.id found was.0 greater was.1 in
            (found, refl, omega (arith, below, above))
        | inr here ↦ (found, refl, subst (λ (y : Offer). y.source.key.id ≤ found) (sym here) (above_new greatest o.source.key.id found greater))
      ];
      one = λ id eq. let same = some_same found id eq in elim (one_of greatest o.source.key.id found greater) [
        | inl old ↦ let was = are.one found old in (was.0, (contains_more offers i o was.0 lt is).1 (inl was.1), was.2, was.3 ∙ same)
        | inr new ↦ (o, (contains_more offers i o o lt is).1 (inr refl), at, sym new ∙ same)
      ];
    }

    pub same_id : (offers : List Offer) (i : ℕ) (o : Offer) (greatest : Option ℕ) → i < length offers → o ≡ get_or offers i o
        → IsGreatestId w e (take i offers) greatest → (IsTransitAt w e o → ⊥) → IsGreatestId w e (take (i + 1) offers) greatest
    same_id offers i o greatest lt is are none = record {
      no_greater = λ x c at_x. elim ((contains_more offers i o x lt is).0 c) [
        | inl before ↦ are.no_greater x before at_x
        | inr here ↦ absurd (none (subst (IsTransitAt w e) here at_x))
      ];
      one = λ id eq. let was = are.one id eq in (was.0, (contains_more offers i o was.0 lt is).1 (inl was.1), was.2, was.3);
    }
