-- The offers of a network do not depend on the other networks that are wanted.
use Rattle.std.proofs.Common.{◌≡◌, Bool, true, false, cond, List, [], ◌∷◌, ◌++◌, Option, Some, None, refl, sym, ap, ◌∙◌}
use Rattle.std.specs.Prelude.{option_to_list}
use Rattle.std.specs.List.{cons_option, filter_map, flat_map}
use Rattle.std.proofs.lemmas.List.Elements.{filter-append}
use Rattle.ospf_types.specs.declared.key.Scope.{Scope}
use Rattle.ospf_types.specs.declared.lsa.Link.{Link}
use Rattle.ospf_types.specs.declared.lsa.LinkKind.{LinkKind}
use Rattle.ospf_types.specs.declared.lsa.LinkKind.TheVariants as link
use Rattle.ospf_types.specs.declared.prefix.Prefix.{Prefix}
use Rattle.ospf_types.specs.Lsa.{Lsa, RouterLink}
use Rattle.ospf_types.specs.RangeChanges.{is_same_prefix}
use Rattle.lsa_codec.specs.Readers.{links_of, prefix_of, without_tos}
use Rattle.explanation.specs.declared.offer.Offer.{Offer}
use Rattle.explanation.specs.declared.offer.OfferKind.{OfferKind}
use Rattle.explanation.specs.Groups.{offers_for}
use Rattle.explanation.specs.Offers.{offer_if, offers_among, offers_of, own_by, own_if, own_kind, source_of, stub_by, stub_if, stubs_of}
use Rattle.explanation.proofs.OfNetwork.{same_prefix}

module _ (p : Prefix) (one other : Prefix → Bool) (agree : one p ≡ other p) where
  abbrev those : List Offer → List Offer
  those os = offers_for p os

  both_none : (b : Bool) (o : Offer) → is_same_prefix o.network p ≡ false → those (option_to_list (cond b (Some o) None)) ≡ []
  both_none true o apart = ap (λ (c : Bool). cond c (o ∷ []) []) apart
  both_none false o apart = refl

  offer_same : (scope : Scope) (l : Lsa) (q : Prefix) (k : OfferKind) (b : Bool) → is_same_prefix q p ≡ b → those (option_to_list (offer_if one scope l q k)) ≡ those (option_to_list (offer_if other scope l q k))
  offer_same scope l q k true is =
      let same : q ≡ p = same_prefix q p is in
      let test : one q ≡ other q = ap one same ∙ agree ∙ ap other (sym same) in
      ap (λ (b : Bool). those (option_to_list (cond b (Some (record { network = q; source = source_of scope l; age = l.header.age; kind = k })) None))) test
  offer_same scope l q k false is =
      let o : Offer = record { network = q; source = source_of scope l; age = l.header.age; kind = k } in
      both_none (one q) o is ∙ sym (both_none (other q) o is)

  cons_at : (b : Bool) (o : Offer) (os : List Offer) → cond b (o ∷ those os) (those os) ≡ cond b (o ∷ []) [] ++ those os
  cons_at true o os = refl
  cons_at false o os = refl

  cons_those : (x : Option Offer) (os : List Offer) → those (cons_option x os) ≡ those (option_to_list x) ++ those os
  cons_those None os = refl
  cons_those (Some o) os = cons_at (is_same_prefix o.network p) o os

  stub_same : (kind : LinkKind) (scope : Scope) (l : Lsa) (k : Link) → those (option_to_list (stub_by kind one scope l k)) ≡ those (option_to_list (stub_by kind other scope l k))
  stub_same link.Stub scope l k = offer_same scope l _ _ _ refl
  stub_same link.PointToPoint scope l k = refl
  stub_same link.Transit scope l k = refl
  stub_same link.Virtual scope l k = refl

  links_same : (scope : Scope) (l : Lsa) (ks : List RouterLink)
      → those (filter_map (λ (k : RouterLink). stub_if one scope l (without_tos k)) ks) ≡ those (filter_map (λ (k : RouterLink). stub_if other scope l (without_tos k)) ks)
  links_same scope l [] = refl
  links_same scope l (k ∷ ks) =
      cons_those (stub_if one scope l (without_tos k)) (filter_map (λ (x : RouterLink). stub_if one scope l (without_tos x)) ks)
      ∙ (λ i. stub_same (without_tos k).kind scope l (without_tos k) i ++ links_same scope l ks i)
      ∙ sym (cons_those (stub_if other scope l (without_tos k)) (filter_map (λ (x : RouterLink). stub_if other scope l (without_tos x)) ks))

  own_same : (q : Option Prefix) (scope : Scope) (l : Lsa) → those (option_to_list (own_by q one scope l)) ≡ those (option_to_list (own_by q other scope l))
  own_same None scope l = refl
  own_same (Some q) scope l = offer_same scope l q (own_kind l) _ refl

  of_same : (scope : Scope) (l : Lsa) → those (offers_of one scope l) ≡ those (offers_of other scope l)
  of_same scope l =
      filter-append (λ (o : Offer). is_same_prefix o.network p) (stubs_of one scope l) (option_to_list (own_if one scope l))
      ∙ (λ i. links_same scope l (links_of l.body) i ++ own_same (prefix_of l) scope l i)
      ∙ sym (filter-append (λ (o : Offer). is_same_prefix o.network p) (stubs_of other scope l) (option_to_list (own_if other scope l)))

  -- for each of several things alike
  pub each_same : {A : Type 0} (f g : A → List Offer) → ((x : A) → those (f x) ≡ those (g x)) → (xs : List A) → those (flat_map f xs) ≡ those (flat_map g xs)
  each_same f g same [] = refl
  each_same f g same (x ∷ xs) =
      filter-append (λ (o : Offer). is_same_prefix o.network p) (f x) (flat_map f xs) ∙ (λ i. same x i ++ each_same f g same xs i) ∙ sym (filter-append (λ (o : Offer). is_same_prefix o.network p) (g x) (flat_map g xs))

  pub among_same : (scope : Scope) (lsas : List Lsa) → those (offers_among one scope lsas) ≡ those (offers_among other scope lsas)
  among_same scope lsas = each_same (offers_of one scope) (offers_of other scope) (of_same scope) lsas
