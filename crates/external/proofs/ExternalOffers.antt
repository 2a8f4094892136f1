-- The offers that a choice of an external route takes, part by part, are the offers to it.
use Rattle.std.proofs.Common.{◌≡◌, ℕ, ◌<◌, List, Option, Some, None, true, false, refl, sym, subst, ◌∙◌, inl, inr, ⊎_elim, arith}
use Rattle.std.specs.Prelude.{◌↔◌, IsSome}
use Rattle.std.specs.List.{Contains}
use Rattle.std.specs.FinMap.{get}
use Rattle.ospf_types.specs.declared.entry.Entry.{Entry}
use Rattle.ospf_types.specs.declared.hop.NextHop.{NextHop}
use Rattle.ospf_types.specs.declared.hop.Path.{Path}
use Rattle.ospf_types.specs.declared.key.Dest.TheVariants.{Net}
use Rattle.ospf_types.specs.declared.key.Key.{Key}
use Rattle.ospf_types.specs.declared.prefix.Prefix.{Prefix}
use Rattle.ospf_types.specs.External.{ExternalPreference, external_cmp}
use Rattle.ospf_types.specs.Hops.{path_cmp}
use Rattle.ospf_types.specs.Routes.{entry_of, external_type}
use Rattle.route_choice.specs.Choices.{Chosen, IsChosen}
use Rattle.route_choice.specs.Takes.{OfferedBySome}
use Rattle.route_choice.proofs.Taking.{takes_none, takes_same, taken_chosen}
use Rattle.advertised_index.specs.AdvertisedRoute.{AdvertisedValue}
use Rattle.advertised_index.specs.Indexes.{OfferIndexValue, IsInGroup}
use Rattle.advertised_index.specs.declared.index_key.IndexKey.TheVariants.{To}
use Rattle.external.specs.Choosing.{TakesPaths, PathsOffer, LeadsOffer, KeyOffers, NetworkOffers}
use Rattle.external.specs.Externals.{IsEntryFor}
use Rattle.external.specs.Forwards.{ForwardValue, ForwardsByAddress, internal_entry}
use Rattle.external.specs.Inputs.{ExternalInputsValue}
use Rattle.external.specs.Offers.{AdvertisedOffers, PreferredLeads, ForwardLeads, OffersBy, preference_of}
use Rattle.external.specs.AsbrRoute.{PreferredValue, PreferredByRouter}

-- the choice among paths so far
abbrev PathChoice : Type 0
PathChoice = Option (Chosen ExternalPreference Path)

-- only over these next hops, at this class and distance
abbrev pub OnlyOver : ℕ → ℕ → List NextHop → ℕ → ℕ → NextHop → Type 0
OnlyOver class x hops other y h = (class ≡ other) × (x ≡ y) × Contains hops h

-- ---- a route

module _ (router : ℕ) (a : AdvertisedValue) where
  pub takes_over : (class x : ℕ) (hops : List NextHop) (at : ExternalPreference) → at ≡ preference_of a class x → (old new : PathChoice) → TakesPaths (PathsOffer hops router at) old new → TakesPaths (LeadsOffer (OnlyOver class x hops) router a) old new
  takes_over class x hops at is old new takes = takes_same (PathsOffer hops router at) (LeadsOffer (OnlyOver class x hops) router a) (λ p path. (
    λ w. (class, x, w.0, (refl, refl, w.1), w.2.0 ∙ is, w.2.1),
    λ w. (w.2, w.3.2, (w.4 ∙ (λ i. preference_of a (sym w.3.0 i) (sym w.3.1 i)) ∙ sym is, w.5)),
  )) old new takes

  -- without a way
  pub takes_nowhere : (leads : ℕ → ℕ → NextHop → Type 0) → ((class x : ℕ) (h : NextHop) → leads class x h → ⊥) → (c : PathChoice) → TakesPaths (LeadsOffer leads router a) c c
  takes_nowhere leads none c = takes_none (LeadsOffer leads router a) (λ p path w. none w.0 w.1 w.2 w.3) c

module _ (e : PreferredValue) (k : Key) (a : AdvertisedValue) where
  -- toward its AS boundary router
  pub takes_direct : (f : Option ForwardValue) → a.forwarding ≡ 0 → (old new : PathChoice) → TakesPaths (LeadsOffer (PreferredLeads (Some e)) k.router a) old new → TakesPaths (AdvertisedOffers (Some e) f k a) old new
  takes_direct f direct old new takes = takes_same (LeadsOffer (PreferredLeads (Some e)) k.router a) (AdvertisedOffers (Some e) f k a) (λ p path. (
    λ w. (w.0, w.1, w.2, refl, inl (direct, w.3), w.4, w.5),
    λ w. (
      w.0,
      w.1,
      w.2,
      ⊎_elim
          (λ (d : (a.forwarding ≡ 0) × PreferredLeads (Some e) w.0 w.1 w.2). d.1)
          (λ (d : (0 < a.forwarding) × ForwardLeads f w.0 w.1 w.2). let some : 0 < a.forwarding = d.0 in absurd (omega (arith, some, direct)))
          w.4,
      w.5,
      w.6,
    ),
  )) old new takes

  -- toward its forwarding address
  pub takes_forwarded : (f : Option ForwardValue) → 0 < a.forwarding → (old new : PathChoice) → TakesPaths (LeadsOffer (ForwardLeads f) k.router a) old new → TakesPaths (AdvertisedOffers (Some e) f k a) old new
  takes_forwarded f some old new takes = takes_same (LeadsOffer (ForwardLeads f) k.router a) (AdvertisedOffers (Some e) f k a) (λ p path. (
    λ w. (w.0, w.1, w.2, refl, inr (some, w.3), w.4, w.5),
    λ w. (
      w.0,
      w.1,
      w.2,
      ⊎_elim
          (λ (d : (a.forwarding ≡ 0) × PreferredLeads (Some e) w.0 w.1 w.2). let direct : a.forwarding ≡ 0 = d.0 in absurd (omega (arith, some, direct)))
          (λ (d : (0 < a.forwarding) × ForwardLeads f w.0 w.1 w.2). d.1)
          w.4,
      w.5,
      w.6,
    ),
  )) old new takes

-- ---- a key

module _ (i : OfferIndexValue) (preferred : PreferredByRouter) (forwards : ForwardsByAddress) where
  module _ (k : Key) where
    pub takes_key : (a : AdvertisedValue) (e : PreferredValue) → get i.routes k ≡ Some a → get preferred k.router ≡ Some e → (old new : PathChoice) → TakesPaths (AdvertisedOffers (Some e) (get forwards a.forwarding) k a) old new → TakesPaths (KeyOffers i.routes preferred forwards k) old new
    takes_key a e advertised entry old new takes = takes_same (AdvertisedOffers (Some e) (get forwards a.forwarding) k a) (KeyOffers i.routes preferred forwards k) (λ p path. (
      λ w. (a, advertised, subst (λ (o : Option PreferredValue). AdvertisedOffers o (get forwards a.forwarding) k a p path) (sym entry) w),
      λ w.
          let both : Some w.0 ≡ Some a = sym w.1 ∙ advertised in
          let same : w.0 ≡ a = cc in
          subst (λ (b : AdvertisedValue). AdvertisedOffers (Some e) (get forwards b.forwarding) k b p path) same
          (subst (λ (o : Option PreferredValue). AdvertisedOffers o (get forwards w.0.forwarding) k w.0 p path) entry w.2),
    )) old new takes

    pub takes_unadvertised : get i.routes k ≡ None → (c : PathChoice) → TakesPaths (KeyOffers i.routes preferred forwards k) c c
    takes_unadvertised none c = takes_none (KeyOffers i.routes preferred forwards k) (λ p path w. let both : None ≡ Some w.0 = sym none ∙ w.1 in absurd cc) c

    -- its AS boundary router has no entry
    pub takes_unreached : get preferred k.router ≡ None → (c : PathChoice) → TakesPaths (KeyOffers i.routes preferred forwards k) c c
    takes_unreached none c = takes_none (KeyOffers i.routes preferred forwards k) (λ p path w.
        let offered = subst (λ (o : Option PreferredValue). AdvertisedOffers o (get forwards w.0.forwarding) k w.0 p path) none w.2 in
        let some : false ≡ true = offered.3 in
        absurd cc) c

  -- ---- a network

  pub takes_keys : (p : Prefix) (keys : List Key) → ((k : Key) → Contains keys k ↔ IsInGroup i (To (Net p)) k) → (old new : PathChoice) → TakesPaths (OfferedBySome keys (KeyOffers i.routes preferred forwards)) old new → TakesPaths (NetworkOffers i preferred forwards p) old new
  takes_keys p keys are old new takes = takes_same (OfferedBySome keys (KeyOffers i.routes preferred forwards)) (NetworkOffers i preferred forwards p) (λ r path. (
    λ w. (w.0, (are w.0).0 w.1, w.2),
    λ w. (w.0, (are w.0).1 w.1, w.2),
  )) old new takes

  module _ (v : ExternalInputsValue) (p : Prefix) where
    abbrev pub ToNetwork : ExternalPreference → Path → Type 0
    ToNetwork = OffersBy v preferred forwards (λ (k : Key) (a : AdvertisedValue). get i.routes k ≡ Some a) p

    takes_network : internal_entry v p ≡ None → (old new : PathChoice) → TakesPaths (NetworkOffers i preferred forwards p) old new → TakesPaths ToNetwork old new
    takes_network none old new takes = takes_same (NetworkOffers i preferred forwards p) ToNetwork (λ r path. (
      λ w.
          let both : Some w.1.0 ≡ Some w.2.0 = sym w.1.1 ∙ w.2.1 in
          let same : w.1.0 ≡ w.2.0 = cc in
          (w.0, w.2.0, w.2.1, subst (λ (b : AdvertisedValue). b.dest ≡ Net p) same w.1.2, none, w.2.2),
      λ w. (w.0, (w.1, w.2, w.3), (w.1, w.2, w.5)),
    )) old new takes

    no_internal : (o : Option Entry) → (IsSome o → ⊥) → o ≡ None
    no_internal None not = refl
    no_internal (Some e) not = absurd (not refl)

    pub chosen_from : (IsSome (internal_entry v p) → ⊥) → (none last c : PathChoice) → none ≡ None → last ≡ c → TakesPaths (NetworkOffers i preferred forwards p) none last → IsChosen external_cmp path_cmp ToNetwork c
    chosen_from internal none last c start end takes =
        subst (IsChosen external_cmp path_cmp ToNetwork) end
        (taken_chosen ToNetwork last (subst (λ (s : PathChoice). TakesPaths ToNetwork s last) start (takes_network (no_internal (internal_entry v p) internal) none last takes)))

    pub entry_from : (c : Chosen ExternalPreference Path) (e : Entry) → e ≡ entry_of (external_type c.key.kind) None c.key.cost c.key.metric c.items → IsChosen external_cmp path_cmp ToNetwork (Some c) → IsEntryFor ToNetwork (Some e)
    entry_from c e is h = subst (λ (t : Entry). IsEntryFor ToNetwork (Some t)) (sym is) (c.key, h.0, h.1, refl)

    -- a network with an internal entry
    pub none_beside : IsSome (internal_entry v p) → IsEntryFor ToNetwork None
    none_beside some = λ r path w. let both : false ≡ true = subst (λ (o : Option Entry). IsSome o) w.4 some in absurd cc
