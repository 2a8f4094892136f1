-- Offers put into the groups of their networks, one after the other.
use Rattle.std.proofs.Common.{◌≡◌, ◌<◌, ◌+◌, ℕ, Bool, true, false, List, take, length, get_or, set, refl, sym, ap, subst, ◌∙◌, inl, inr, arith}
use Rattle.std.specs.Prelude.{Contains}
use Rattle.std.specs.List.Sorted.{IsStrictlySortedBy}
use Rattle.std.proofs.lemmas.Bool.{cases_eq}
use Rattle.std.proofs.lemmas.List.{get_or-map, get_or-set_other, get_or-set_same, get_or_default, length-map, length-set}
use Rattle.std.proofs.lemmas.List.Elements.{Contains-get_or}
use Rattle.std.proofs.Math.Seq.{map-set_same}
use Rattle.ospf_types.specs.declared.prefix.Prefix.{Prefix}
use Rattle.ospf_types.specs.Network.{network_cmp}
use Rattle.ospf_types.specs.RangeChanges.{is_same_prefix}
use Rattle.explanation.specs.declared.grouping.Group.{Group}
use Rattle.explanation.specs.declared.offer.Offer.{Offer}
use Rattle.explanation.specs.Groups.{AreGroups, IsOfferAdded, network_of, networks_in, offers_for}
use Rattle.explanation.specs.Offers.{IsPlaceOf}
use Rattle.explanation.proofs.OfNetwork.{more_of, prefix_same, same_of, same_prefix}
use Rattle.explanation.proofs.Searching.{one_place}

apart : (p q : Prefix) → (p ≡ q → ⊥) → (b : Bool) → is_same_prefix p q ≡ b → is_same_prefix p q ≡ false
apart p q other true is = absurd (other (same_prefix p q is))
apart p q other false is = is

module _ (networks : List Prefix) (ordered : IsStrictlySortedBy network_cmp networks) (offers : List Offer) (i : ℕ) (o : Offer) (lt : i < length offers) (here : o ≡ get_or offers i o) where
  module _ (groups : List Group) (are : AreGroups networks (take i offers) groups) where
    as_many : length groups ≡ length networks
    as_many = sym (length-map groups network_of) ∙ ap (λ (ps : List Prefix). length ps) are.listed

    network_at : (j : ℕ) (d : Group) → j < length groups → (get_or groups j d).network ≡ get_or networks j d.network
    network_at j d within = sym (get_or-map network_of groups j d d.network within) ∙ ap (λ (ps : List Prefix). get_or ps j d.network) are.listed

    -- for another network
    kept_at : (j : ℕ) (d : Group) → j < length groups → (o.network ≡ (get_or groups j d).network → ⊥) → (get_or groups j d).offers.items ≡ offers_for (get_or groups j d).network (take (i + 1) offers)
    kept_at j d within other =
        let g = get_or groups j d in
        same_of g.network offers i o lt here g.offers.items (apart o.network g.network other (is_same_prefix o.network g.network) refl) (are.right j d within)

    -- it is of none of the networks
    pub none_put : (Contains networks o.network → ⊥) → AreGroups networks (take (i + 1) offers) groups
    none_put none = record {
      listed = are.listed;
      right = λ j d within. kept_at j d within (λ same.
          none (subst (Contains networks) (sym (network_at j d within) ∙ sym same) (Contains-get_or networks j d.network (omega (arith, within, as_many)))));
    }

    pub one_put : (place : ℕ) → IsPlaceOf networks o.network place → (after : List Group) → IsOfferAdded place o groups after → AreGroups networks (take (i + 1) offers) after
    one_put place at after (new, put, is) =
        let there : place < length groups = omega (arith, at.0, as_many) in
        let of : new.network ≡ o.network = (is new).0 ∙ network_at place new there ∙ at.1 new.network in
        record {
          listed = ap networks_in put ∙ map-set_same network_of groups place new new (is new).0 ∙ are.listed;
          right = λ j d within.
              let low : j < length groups = omega (arith, within, ap (λ (gs : List Group). length gs) put, length-set groups place new) in
              elim (cases_eq j place) [
                | inl same ↦
                    let found : get_or after j d ≡ new = ap (λ (gs : List Group). get_or gs j d) put ∙ ap (λ (k : ℕ). get_or (set groups place new) k d) same ∙ get_or-set_same groups place new d there in
                    let old = get_or groups place d in
                    subst (λ (g : Group). g.offers.items ≡ offers_for g.network (take (i + 1) offers)) (sym found)
                    (more_of new.network offers i o lt here old.offers.items new.offers.items (prefix_same o.network new.network (sym of)) (is d).1
                    (are.right place d there ∙ ap (λ (p : Prefix). offers_for p (take i offers)) (sym (is d).0)))
                | inr other ↦
                    let found : get_or after j d ≡ get_or groups j d = ap (λ (gs : List Group). get_or gs j d) put ∙ get_or-set_other groups place j new d other in
                    subst (λ (g : Group). g.offers.items ≡ offers_for g.network (take (i + 1) offers)) (sym found)
                    (kept_at j d low (λ same. other (one_place networks ordered j place o.network (omega (arith, low, as_many)) at.0
                    (get_or_default networks j o.network d.network (omega (arith, low, as_many)) ∙ sym (network_at j d low) ∙ sym same ∙ sym (at.1 o.network)))))
              ];
        }
