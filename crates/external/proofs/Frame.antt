-- Right results stay right where nothing that they depend on differs.
--   entry_same, preferred_same: a result for the offers is one for the same offers
--   router_stands: the preferred entry of a router that is not named
--   forward_stands: where an address leads that is not due
--   entry_stands: the entry of a network that is not affected, and not named or that nothing
--     leads to
--   stands_after: all of them, once the index followed
--   stands_from_nothing: the same of routes where nothing was advertised
use Rattle.std.proofs.Common.{◌≡◌, ℕ, List, Option, Some, None, refl, sym, ap, subst, ◌∙◌, inl, inr, arith}
use Rattle.std.specs.Prelude.{◌↔◌, Bool, IsSome, false}
use Rattle.std.specs.FinMap.{get, empty, get-empty}
use Rattle.std.specs.List.{Contains}
use Rattle.std.specs.Ordering.{nat_cmp}
use Rattle.std.proofs.lemmas.Bool.{cases_lt}
use Rattle.ospf_types.specs.declared.entry.Entry.{Entry}
use Rattle.ospf_types.specs.declared.hop.NextHop.{NextHop}
use Rattle.ospf_types.specs.declared.hop.Path.{Path}
use Rattle.ospf_types.specs.declared.key.Dest.{Dest}
use Rattle.ospf_types.specs.declared.key.Dest.TheVariants.{Net, Router}
use Rattle.ospf_types.specs.declared.key.Key.{Key}
use Rattle.ospf_types.specs.declared.key.Scope.{Scope}
use Rattle.ospf_types.specs.declared.key.Scope.TheVariants.{As}
use Rattle.ospf_types.specs.declared.prefix.Prefix.{Prefix}
use Rattle.ospf_types.specs.Address.{HasAddress}
use Rattle.ospf_types.specs.Boundary.{Preference, preference_cmp, class_of}
use Rattle.ospf_types.specs.External.{ExternalPreference, external_cmp}
use Rattle.ospf_types.specs.Intra.{E}
use Rattle.ospf_types.specs.Keys.{key_cmp}
use Rattle.ospf_types.specs.Network.{network_cmp}
use Rattle.intra.specs.Intras.{reached_at}
use Rattle.intra.specs.ReachedRouter.{ReachedValue, HandsOut}
use Rattle.intra.proofs.Frame.{best_same}
use Rattle.advertised_index.specs.AdvertisedRoute.{AdvertisedValue}
use Rattle.advertised_index.specs.Indexes.{OfferIndexValue, ChangedOffersValue, AreDestsAffected, IsIndexOf, IsForwardedInto, IsForwardedTo, IsLedTo}
use Rattle.external.specs.Changes.{InputsDifferAmong}
use Rattle.external.specs.Externals.{ExternalValue, IsEntryFor, IsExternalOf, IsForwardIn}
use Rattle.external.specs.Forwards.{ForwardValue, ForwardsByAddress, IsForwardOf, IsMatchOf, LeadsByMatch, Matches, class_in, internal_entry}
use Rattle.external.specs.Inputs.{ExternalInputsValue}
use Rattle.external.specs.Offers.{OffersOf}
use Rattle.external.specs.AsbrRoute.{PreferredByRouter, PreferredValue, EntryOffers, IsPreferredFor, RouterOffers}
use Rattle.external.specs.Updating.{IsNoShorter, IsNoShorterThan, StandsBut}

-- ---- results of the same offers

pub entry_same : (one other : ExternalPreference → Path → Type 0) → ((preference : ExternalPreference) (path : Path) → one preference path ↔ other preference path) → (e : Option Entry) → IsEntryFor one e → IsEntryFor other e
entry_same one other same None none = λ preference path offered. none preference path ((same preference path).1 offered)
entry_same one other same (Some e) is = (is.0, best_same one other same external_cmp is.0 e.paths is.1, is.2, is.3)

pub preferred_same : (one other : Preference → NextHop → Type 0) → ((preference : Preference) (h : NextHop) → one preference h ↔ other preference h) → (w : Option PreferredValue) → IsPreferredFor one w → IsPreferredFor other w
preferred_same one other same None none = λ preference h offered. none preference h ((same preference h).1 offered)
preferred_same one other same (Some w) is = (best_same one other same preference_cmp w.preference w.hops is.0, is.1)

-- ---- what is offered by the one is offered by the other

router_offers : (one other : ExternalInputsValue) (r : ℕ) → other.compat ≡ one.compat → other.areas ≡ one.areas → ((area : ℕ) → reached_at other.intra.areas area r ≡ reached_at one.intra.areas area r)
    → get other.inter.entries (Router r) ≡ get one.inter.entries (Router r) → (preference : Preference) (h : NextHop) → RouterOffers one r preference h → RouterOffers other r preference h
router_offers one other r compat areas reached inter preference h (inl w) =
    let o = w.2 in
    inl (w.0, subst (λ (ns : List ℕ). Contains ns w.0) (sym areas) w.1, (o.0, o.1 ∙ ap (λ (b : Bool). class_of b (Some w.0)) (sym compat), subst (λ (x : Option ReachedValue). HandsOut E x preference.cost h) (sym (reached w.0)) o.2))
router_offers one other r compat areas reached inter preference h (inr e) = inr (subst (λ (z : Bool × Option Entry). EntryOffers z.0 z.1 preference h) (λ i. ((sym compat) i, (sym inter) i)) e)

leads_by : (one other : ExternalInputsValue) (p : Prefix) → other.compat ≡ one.compat → internal_entry other p ≡ internal_entry one p → get other.intra.entries p ≡ get one.intra.entries p
    → (address class cost : ℕ) (h : NextHop) → LeadsByMatch one address (Some p) class cost h → LeadsByMatch other address (Some p) class cost h
leads_by one other p compat internal intra address class cost h w =
    let l = w.1 in
    (w.0, (l.0, l.1, internal ∙ l.2, l.3, (λ i. class_in (compat i) (intra i) l.0.area) ∙ l.4, l.5, l.6), w.2)

-- ---- where the inputs differ in no more than is named

module _ (keys : List (Scope × Key)) (dests : List Dest) (b v : ExternalInputsValue) (differ : InputsDifferAmong keys dests b v) where
  -- the preferred entry of a router that is not named
  pub router_stands : (r : ℕ) → (Contains dests (Router r) → ⊥) → (w : Option PreferredValue) → IsPreferredFor (RouterOffers b r) w → IsPreferredFor (RouterOffers v r) w
  router_stands r absent w is = preferred_same (RouterOffers b r) (RouterOffers v r) (λ preference h.
      let reached = differ.routers r absent in
      let inter = differ.inter (Router r) absent in (
        router_offers b v r differ.compat differ.areas reached inter preference h,
        router_offers v b r (sym differ.compat) (sym differ.areas) (λ area. sym (reached area)) (sym inter) preference h,
      )) w is

  -- the internal entry of a network that is not named
  internal_stands : (p : Prefix) → (Contains dests (Net p) → ⊥) → internal_entry v p ≡ internal_entry b p
  internal_stands p absent =
      let intra = differ.intra p absent in
      let inter = differ.inter (Net p) absent in
      cc

  matches_stand : (p : Prefix) → (Contains dests (Net p) → ⊥) → Matches v p ↔ Matches b p
  matches_stand p absent =
      let internal = internal_stands p absent in
      let ranges = differ.ranges p absent in (
        λ m. elim m [ inl some ↦ inl (subst (λ (o : Option Entry). IsSome o) internal some) | inr active ↦ inr (ranges.0 active) ],
        λ m. elim m [ inl some ↦ inl (subst (λ (o : Option Entry). IsSome o) (sym internal) some) | inr active ↦ inr (ranges.1 active) ],
      )

  -- the longest match of an address that lies in no named network which is as long
  match_stands : (a : ℕ) (m : Option Prefix) → ((p : Prefix) → Contains dests (Net p) → HasAddress p a → IsNoShorterThan m p → ⊥) → IsMatchOf b a m → IsMatchOf v a m
  match_stands a None clear none = λ q short has matches. none q short has ((matches_stand q (λ c. clear q c has tt)).0 matches)
  match_stands a (Some m) clear is = record {
    within = is.within;
    contains = is.contains;
    matches = (matches_stand m (λ c. clear m c is.contains (omega arith))).1 is.matches;
    longest = λ q short has matches. elim (cases_lt m.length q.length) [
      | inl longer ↦ is.longest q short has ((matches_stand q (λ c. clear q c has (omega (arith, longer)))).0 matches)
      | inr le ↦ le
    ];
  }

  way_stands : (a : ℕ) (m : Option Prefix) → ((p : Prefix) → Contains dests (Net p) → HasAddress p a → IsNoShorterThan m p → ⊥) → IsMatchOf b a m → (class cost : ℕ) (h : NextHop) → LeadsByMatch b a m class cost h ↔ LeadsByMatch v a m class cost h
  way_stands a None clear is class cost h = (λ no. no, λ no. no)
  way_stands a (Some m) clear is class cost h =
      let absent : Contains dests (Net m) → ⊥ = λ c. clear m c is.contains (omega arith) in
      let internal = internal_stands m absent in
      let intra = differ.intra m absent in
      (leads_by b v m differ.compat internal intra a class cost h, leads_by v b m (sym differ.compat) (sym internal) (sym intra) a class cost h)

  leads_stand : (a : ℕ) (f : ForwardValue) → ((p : Prefix) → Contains dests (Net p) → HasAddress p a → IsNoShorter (Some f) p → ⊥) → IsForwardOf b a f → IsForwardOf v a f
  leads_stand a f clear is = record {
    matched = match_stands a f.matched clear is.matched;
    way = λ class cost h.
        let same = way_stands a f.matched clear is.matched class cost h in
        let was = is.way class cost h in
        (λ w. same.0 (was.0 w), λ l. was.1 (same.1 l));
  }

  -- ---- and the index says otherwise no more than is affected

  module _ (old i : OfferIndexValue) (first affected : ChangedOffersValue) (touched : AreDestsAffected old i first affected) where
    forwarded_before : (a : ℕ) → (Contains affected.addresses a → ⊥) → IsForwardedTo i a → IsForwardedTo old a
    forwarded_before a absent w =
        let g = w.1 in
        elim (touched.each w.0) [
          | inl e ↦ (w.0, (g.0, sym e ∙ g.1, g.2))
          | inr all ↦ absurd (absent (all.1 a (inr (g.0, g.1, g.2.1, g.2.0))))
        ]

    forwarded_after : (a : ℕ) → (Contains affected.addresses a → ⊥) → IsForwardedTo old a → IsForwardedTo i a
    forwarded_after a absent w =
        let g = w.1 in
        elim (touched.each w.0) [
          | inl e ↦ (w.0, (g.0, e ∙ g.1, g.2))
          | inr all ↦ absurd (absent (all.1 a (inl (g.0, g.1, g.2.1, g.2.0))))
        ]

    -- where an address leads that is not due
    pub forward_stands : (a : ℕ) (f : Option ForwardValue) → (Contains affected.addresses a → ⊥) → ((p : Prefix) → Contains dests (Net p) → IsForwardedInto i p a → IsNoShorter f p → ⊥) → IsForwardIn b old a f → IsForwardIn v i a f
    forward_stands a None absent clear none = λ w. none (forwarded_before a absent w)
    forward_stands a (Some f) absent clear is =
        let there = forwarded_after a absent is.0 in
        (there, leads_stand a f (λ p c has no_shorter. clear p c (there, has) no_shorter) is.1)

    module _ (was : IsIndexOf b.root As b.lsas old) (now : IsIndexOf v.root As v.lsas i) (preferred : PreferredByRouter) (forwards : ForwardsByAddress) (p : Prefix)
        (unaffected : Contains affected.dests (Net p) → ⊥) (unnamed : Contains dests (Net p) → IsLedTo i (Net p) → ⊥) where
      offers_after : (preference : ExternalPreference) (path : Path) → OffersOf b preferred forwards p preference path → OffersOf v preferred forwards p preference path
      offers_after preference path o =
          let listed : get old.routes o.0 ≡ Some o.1 = was o.0 ∙ o.2 in
          elim (touched.each o.0) [
            | inl e ↦ (o.0, o.1, sym (now o.0) ∙ e ∙ listed, o.3, internal_stands p (λ c. unnamed c (o.0, (o.1, e ∙ listed, o.3))) ∙ o.4, o.5)
            | inr all ↦ absurd (unaffected (all.0 (Net p) (inl (o.1, listed, o.3))))
          ]

      offers_before : (preference : ExternalPreference) (path : Path) → OffersOf v preferred forwards p preference path → OffersOf b preferred forwards p preference path
      offers_before preference path o =
          let listed : get i.routes o.0 ≡ Some o.1 = now o.0 ∙ o.2 in
          elim (touched.each o.0) [
            | inl e ↦ (o.0, o.1, sym (was o.0) ∙ sym e ∙ listed, o.3, sym (internal_stands p (λ c. unnamed c (o.0, (o.1, listed, o.3)))) ∙ o.4, o.5)
            | inr all ↦ absurd (unaffected (all.0 (Net p) (inr (o.1, listed, o.3))))
          ]

      -- the entry of a network that is not affected, and not named or that nothing leads to
      pub entry_stands : (e : Option Entry) → IsEntryFor (OffersOf b preferred forwards p) e → IsEntryFor (OffersOf v preferred forwards p) e
      entry_stands e is = entry_same (OffersOf b preferred forwards p) (OffersOf v preferred forwards p) (λ preference path. (offers_after preference path, offers_before preference path)) e is

-- once the index followed, all else that is not due is right as it stands
pub stands_after : (keys : List (Scope × Key)) (dests : List Dest) (b v : ExternalInputsValue) (old new : ExternalValue) (first affected : ChangedOffersValue) → IsExternalOf b old → InputsDifferAmong keys dests b v
    → IsIndexOf v.root As v.lsas new.index → AreDestsAffected old.index new.index first affected → new.preferred ≡ old.preferred → new.forwards ≡ old.forwards → new.entries ≡ old.entries → new.spent ≡ old.spent
    → StandsBut v dests affected new
stands_after keys dests b v old new first affected was differ index touched preferred forwards entries spent =
    let kept : new ≡ record old { index = new.index } = (λ i. record { index = new.index; preferred = preferred i; forwards = forwards i; entries = entries i; spent = spent i }) in
    subst (λ (w : ExternalValue). StandsBut v dests affected w) (sym kept) (record {
      fresh = was.fresh;
      index = index;
      preferred = λ r absent. router_stands keys dests b v differ r absent (get old.preferred r) (was.preferred r);
      forwards = λ a not_due. forward_stands keys dests b v differ old.index new.index first affected touched a (get old.forwards a) (λ c. not_due (inl c)) (λ p c inside no_shorter. not_due (inr (p, c, (inside, no_shorter)))) (was.forwards a);
      entries = λ p unaffected unnamed. entry_stands keys dests b v differ old.index new.index first affected touched was.index index old.preferred old.forwards p unaffected unnamed (get old.entries p) (was.entries p);
    })

-- ---- where nothing was advertised

abbrev pub blank : ExternalValue
blank = record { index = record { routes = empty }; preferred = empty; forwards = empty; entries = empty; spent = false }

-- routes where nothing was advertised stand, if all routers that something leads to are named
pub stands_from_nothing : (dests : List Dest) (v : ExternalInputsValue) (new : ExternalValue) (first affected : ChangedOffersValue) → ((r : ℕ) (preference : Preference) (h : NextHop) → RouterOffers v r preference h → Contains dests (Router r))
    → IsIndexOf v.root As v.lsas new.index → AreDestsAffected blank.index new.index first affected → new.preferred ≡ empty → new.forwards ≡ empty → new.entries ≡ empty → new.spent ≡ false
    → StandsBut v dests affected new
stands_from_nothing dests v new first affected named index touched preferred forwards entries spent =
    let kept : new ≡ record blank { index = new.index } = (λ i. record { index = new.index; preferred = preferred i; forwards = forwards i; entries = entries i; spent = spent i }) in
    let nothing : (k : Key) (a : AdvertisedValue) → get blank.index.routes k ≡ Some a → ⊥ = λ k a is. let wrong : None ≡ Some a = sym (get-empty key_cmp k) ∙ is in absurd cc in
    subst (λ (w : ExternalValue). StandsBut v dests affected w) (sym kept) (record {
      fresh = refl;
      index = index;
      preferred = λ r absent. subst (IsPreferredFor (RouterOffers v r)) (sym (get-empty nat_cmp r)) (λ preference h offered. absent (named r preference h offered));
      forwards = λ a not_due. subst (IsForwardIn v new.index a) (sym (get-empty nat_cmp a)) (λ w.
          let g = w.1 in
          elim (touched.each w.0) [
            | inl e ↦ nothing w.0 g.0 (sym e ∙ g.1)
            | inr all ↦ not_due (inl (all.1 a (inr (g.0, g.1, g.2.1, g.2.0))))
          ]);
      entries = λ p unaffected unnamed. subst (IsEntryFor (OffersOf v empty empty p)) (sym (get-empty network_cmp p)) (λ preference path o.
          let listed : get new.index.routes o.0 ≡ Some o.1 = index o.0 ∙ o.2 in
          elim (touched.each o.0) [
            | inl e ↦ nothing o.0 o.1 (sym e ∙ listed)
            | inr all ↦ unaffected (all.0 (Net p) (inr (o.1, listed, o.3)))
          ]);
    })
