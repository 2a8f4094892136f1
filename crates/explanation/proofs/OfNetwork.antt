-- Those of the offers that are of one network.
use Rattle.std.proofs.Common.{◌≡◌, ◌+◌, ◌<◌, ◌≤◌, ℕ, Bool, true, false, cond, List, [], ◌∷◌, ◌++◌, take, length, get_or, refl, sym, ap, subst, ◌∙◌, inl, inr}
use Rattle.std.specs.Prelude.{◌==◌, ◌↔◌, Contains}
use Rattle.std.proofs.lemmas.Bool.{and_from, and_parts, eq-eqb, eqb-true}
use Rattle.std.proofs.lemmas.List.{append-nil, take_all}
use Rattle.std.proofs.lemmas.List.Elements.{filter_more}
use Rattle.ospf_types.proofs.Elements.{first_element, first_or_later, later_element, no_element}
use Rattle.ospf_types.specs.declared.prefix.Prefix.{Prefix}
use Rattle.ospf_types.specs.RangeChanges.{is_same_prefix}
use Rattle.explanation.specs.declared.offer.Offer.{Offer}
use Rattle.explanation.specs.Groups.{AreOfNetwork, offers_for}

-- two prefixes with one address and one length are one
pub same_prefix : (p q : Prefix) → is_same_prefix p q ≡ true → p ≡ q
same_prefix p q is =
    let parts = and_parts (p.address == q.address) (p.length == q.length) is in
    λ i. record { address = eqb-true p.address q.address parts.0 i; length = eqb-true p.length q.length parts.1 i }

pub prefix_same : (p q : Prefix) → p ≡ q → is_same_prefix p q ≡ true
prefix_same p q is = and_from (p.address == q.address) (p.length == q.length) (eq-eqb p.address q.address (ap (λ (x : Prefix). x.address) is)) (eq-eqb p.length q.length (ap (λ (x : Prefix). x.length) is))

module _ (p : Prefix) where
  abbrev is_of : Offer → Bool
  is_of o = is_same_prefix o.network p

  -- one more offer, which is of the network or is not
  just_more : (x : Offer) (xs : List Offer) (o : Offer) (b : Bool) → is_of x ≡ b → Contains (offers_for p xs) o ↔ (Contains xs o × (o.network ≡ p))
      → Contains (cond b (x ∷ offers_for p xs) (offers_for p xs)) o ↔ (Contains (x ∷ xs) o × (o.network ≡ p))
  just_more x xs o true is rest = (
    λ c. elim (first_or_later x o (offers_for p xs) c) [
      | inl same ↦ (subst (Contains (x ∷ xs)) (sym same) (first_element x xs), ap (λ (y : Offer). y.network) same ∙ same_prefix x.network p is)
      | inr later ↦ let old = rest.0 later in (later_element x o xs old.0, old.1)
    ],
    λ h. elim (first_or_later x o xs h.0) [
      | inl same ↦ subst (Contains (x ∷ offers_for p xs)) (sym same) (first_element x (offers_for p xs))
      | inr later ↦ later_element x o (offers_for p xs) (rest.1 (later, h.1))
    ],
  )
  just_more x xs o false is rest = (
    λ c. let old = rest.0 c in (later_element x o xs old.0, old.1),
    λ h. elim (first_or_later x o xs h.0) [
      | inl same ↦ absurd (let yes : is_of x ≡ true = prefix_same x.network p (ap (λ (y : Offer). y.network) (sym same) ∙ h.1) in let wrong : true ≡ false = sym yes ∙ is in cc)
      | inr later ↦ rest.1 (later, h.1)
    ],
  )

  pub just_those : (all : List Offer) → AreOfNetwork p all (offers_for p all)
  just_those [] o = (λ c. absurd (no_element o c), λ h. absurd (no_element o h.0))
  just_those (x ∷ xs) o = just_more x xs o (is_of x) refl (just_those xs o)

  module _ (offers : List Offer) (i : ℕ) (new : Offer) (lt : i < length offers) (here : new ≡ get_or offers i new) where
    more_by : (b : Bool) → is_of new ≡ b → (before : List Offer) → before ≡ offers_for p (take i offers) → offers_for p (take (i + 1) offers) ≡ before ++ cond b (new ∷ []) []
    more_by b is before so_far =
        filter_more is_of offers i new lt
        ∙ ap (λ (os : List Offer). os ++ cond (is_of (get_or offers i new)) (get_or offers i new ∷ []) []) (sym so_far)
        ∙ ap (λ (o : Offer). before ++ cond (is_of o) (o ∷ []) []) (sym here)
        ∙ ap (λ (c : Bool). before ++ cond c (new ∷ []) []) is

    pub more_of : (before after : List Offer) → is_of new ≡ true → after ≡ before ++ new ∷ [] → before ≡ offers_for p (take i offers) → after ≡ offers_for p (take (i + 1) offers)
    more_of before after is added so_far = added ∙ sym (more_by true is before so_far)

    pub same_of : (found : List Offer) → is_of new ≡ false → found ≡ offers_for p (take i offers) → found ≡ offers_for p (take (i + 1) offers)
    same_of found is so_far = sym (append-nil found) ∙ sym (more_by false is found so_far)

  pub all_of : (offers : List Offer) (i : ℕ) (found : List Offer) → length offers ≤ i → found ≡ offers_for p (take i offers) → found ≡ offers_for p offers
  all_of offers i found past so_far = so_far ∙ ap (offers_for p) (take_all i offers past)
