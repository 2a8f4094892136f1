-- The offers of the summaries for a destination, part by part, and the entry that is chosen from
-- them.
use Rattle.std.proofs.Common.{◌≡◌, ℕ, ◌+◌, ◌<◌, List, [], Option, Some, None, bit_and, refl, sym, subst, ◌∙◌, ◌⊎◌, inr, ⊎_elim}
use Rattle.std.specs.Prelude.{◌↔◌}
use Rattle.std.specs.FinMap.{get}
use Rattle.std.specs.List.{Contains}
use Rattle.std.specs.Ordering.{nat_cmp}
use Rattle.ospf_types.specs.declared.entry.Entry.{Entry}
use Rattle.ospf_types.specs.declared.entry.PathType.TheVariants.{Inter}
use Rattle.ospf_types.specs.declared.hop.Path.{Path}
use Rattle.ospf_types.specs.declared.key.Dest.{Dest}
use Rattle.ospf_types.specs.declared.key.Key.{Key}
use Rattle.ospf_types.specs.Hops.{path_cmp}
use Rattle.ospf_types.specs.Intra.{B}
use Rattle.ospf_types.specs.Routes.{entry_of}
use Rattle.ospf_types.proofs.Elements.{no_element}
use Rattle.route_choice.specs.Choices.{Chosen, IsChosen}
use Rattle.intra.specs.Intras.{AreaIntraValue, reached_at}
use Rattle.intra.specs.ReachedRouter.{ReachedValue, HandsOut}
use Rattle.route_choice.specs.Takes.{OfferedBySome}
use Rattle.route_choice.proofs.Taking.{takes_none, takes_same, taken_chosen}
use Rattle.advertised_index.specs.AdvertisedRoute.{AdvertisedValue}
use Rattle.advertised_index.specs.Indexes.{OfferIndexValue, IsInGroup}
use Rattle.advertised_index.specs.declared.index_key.IndexKey.TheVariants.{To}
use Rattle.inter.specs.Choosing.{IsListed, IsChosenIn, TakesPaths, KeyOffers, HopsOffer}
use Rattle.inter.specs.Inputs.{InterInputsValue}
use Rattle.inter.specs.Inters.{IsEntryFor}
use Rattle.inter.specs.Offers.{IsTakenBelow, OffersBy}

-- the choice among paths so far
abbrev PathChoice : Type 0
PathChoice = Option (Chosen ℕ Path)

-- what is found twice is one
one_found : {X : Type 0} (o : Option X) (x y : X) → o ≡ Some x → o ≡ Some y → x ≡ y
one_found {X} o x y one other = let e : Some x ≡ Some y = sym one ∙ other in cc

-- ---- one key

module _ (areas : List AreaIntraValue) (area : ℕ) (i : OfferIndexValue) (k : Key) where
  -- nothing is advertised under the key
  pub takes_no_route : (c : PathChoice) → get i.routes k ≡ None → TakesPaths (KeyOffers areas area i k) c c
  takes_no_route c none = takes_none (KeyOffers areas area i k) (λ cost path h. let e : None ≡ Some h.0 = sym none ∙ h.3 in absurd cc) c

  -- its border router is not reached
  pub takes_unreached : (c : PathChoice) → reached_at areas area k.router ≡ None → TakesPaths (KeyOffers areas area i k) c c
  takes_unreached c none =
      takes_none (KeyOffers areas area i k) (λ cost path h. subst (λ (o : Option ReachedValue). HandsOut B o h.1 h.2) none h.4) c

  module _ (r : ReachedValue) (reached : reached_at areas area k.router ≡ Some r) where
    -- or is no border router
    pub takes_no_border : (c : PathChoice) → (0 < bit_and r.flags B → ⊥) → TakesPaths (KeyOffers areas area i k) c c
    takes_no_border c none =
        takes_none (KeyOffers areas area i k) (λ cost path h. none (subst (λ (o : Option ReachedValue). HandsOut B o h.1 h.2) reached h.4).0) c

    -- over each next hop of the border router
    pub takes_border : (a : AdvertisedValue) (old new : PathChoice) → get i.routes k ≡ Some a → 0 < bit_and r.flags B → TakesPaths (HopsOffer r.hops k.router (r.distance + a.metric)) old new
        → TakesPaths (KeyOffers areas area i k) old new
    takes_border a old new listed border takes = takes_same (HopsOffer r.hops k.router (r.distance + a.metric)) (KeyOffers areas area i k) (λ cost path. (
      λ h. (a, r.distance, h.0, listed, subst (λ (o : Option ReachedValue). HandsOut B o r.distance h.0) (sym reached) (border, refl, h.1), h.2.0, h.2.1),
      λ h.
          let hands = subst (λ (o : Option ReachedValue). HandsOut B o h.1 h.2) reached h.4 in
          let same = one_found (get i.routes k) h.0 a h.3 listed in
          let sum : h.1 + h.0.metric ≡ r.distance + a.metric = (λ j. sym hands.1 j + (same j).metric) in
          (h.2, hands.2, (h.5 ∙ sum, h.6)),
    )) old new takes

-- ---- all keys that lead to the destination

module _ (v : InterInputsValue) (area : ℕ) (i : OfferIndexValue) (d : Dest) where
  -- what the keys of the group offer is what is offered by the index
  by_keys : (keys : List Key) → ((k : Key) → Contains keys k ↔ IsInGroup i (To d) k) → (IsTakenBelow v area d → ⊥)
      → (cost : ℕ) (path : Path) → OfferedBySome keys (KeyOffers v.intra.areas area i) cost path ↔ OffersBy v area (IsListed i) d cost path
  by_keys keys group free cost path = (
    λ h.
        let member = (group h.0).0 h.1 in
        let o = h.2 in
        let dest = subst (λ (x : AdvertisedValue). x.dest ≡ d) (one_found (get i.routes h.0) member.0 o.0 member.1 o.3) member.2 in
        (h.0, o.0, o.3, dest, free, (o.1, o.2, o.4, o.5, o.6)),
    λ h. let o = h.5 in (h.0, (group h.0).1 (h.1, h.2, h.3), (h.1, o.0, o.1, h.2, o.2, o.3, o.4)),
  )

  -- nothing is offered to a destination to which another route is preferred
  pub none_chosen : IsTakenBelow v area d → IsChosenIn v area i d None
  none_chosen taken = λ cost path h. h.4 taken

  -- from nothing on, what was taken is chosen from
  pub chosen_from : (none keys slice : List Key) (areas : List AreaIntraValue) → none ≡ [] → ((k : Key) → Contains keys k ↔ (Contains none k ⊎ IsInGroup i (To d) k)) → slice ≡ keys → areas ≡ v.intra.areas
      → (IsTakenBelow v area d → ⊥) → (old new c : PathChoice) → old ≡ None → new ≡ c → TakesPaths (OfferedBySome slice (KeyOffers areas area i)) old new
      → IsChosen nat_cmp path_cmp (OffersBy v area (IsListed i) d) c
  chosen_from none keys slice areas empty pushed same inside free old new c first last takes =
      let group : (k : Key) → Contains keys k ↔ IsInGroup i (To d) k = λ k. (
        λ there. ⊎_elim (λ (before : Contains none k). absurd (no_element k (subst (λ (ks : List Key). Contains ks k) empty before))) (λ (member : IsInGroup i (To d) k). member) ((pushed k).0 there),
        λ member. (pushed k).1 (inr member),
      ) in
      let of = λ (o : PathChoice) (ks : List Key) (is : List AreaIntraValue). TakesPaths (OfferedBySome ks (KeyOffers is area i)) o c in
      taken_chosen (OffersBy v area (IsListed i) d) c
      (takes_same (OfferedBySome keys (KeyOffers v.intra.areas area i)) (OffersBy v area (IsListed i) d) (by_keys keys group free) None c
      (subst (λ (is : List AreaIntraValue). of None keys is) inside
      (subst (λ (ks : List Key). of None ks areas) same
      (subst (λ (o : PathChoice). of o slice areas) first
      (subst (λ (o : PathChoice). TakesPaths (OfferedBySome slice (KeyOffers areas area i)) old o) last takes)))))

-- the entry of the choice
pub entry_from : (area : ℕ) (offers : ℕ → Path → Type 0) (c : Chosen ℕ Path) (e : Entry) → e ≡ entry_of Inter (Some area) c.key 0 c.items → IsChosen nat_cmp path_cmp offers (Some c) → IsEntryFor area offers (Some e)
entry_from area offers c e is chosen = subst (λ (f : Entry). IsEntryFor area offers (Some f)) (sym is) (c.key, chosen.0, chosen.1, refl)
