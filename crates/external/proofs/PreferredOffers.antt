-- The offers that a choice of a preferred entry takes, part by part, are the offers to it.
use Rattle.std.proofs.Common.{◌≡◌, ℕ, ◌<◌, Option, Some, None, refl, sym, ap, subst, ◌∙◌}
use Rattle.std.specs.Prelude.{Bool, bit_and}
use Rattle.std.specs.List.{Contains}
use Rattle.std.specs.FinMap.{get}
use Rattle.ospf_types.specs.declared.entry.Entry.{Entry}
use Rattle.ospf_types.specs.declared.hop.NextHop.{NextHop}
use Rattle.ospf_types.specs.declared.hop.Path.{Path}
use Rattle.ospf_types.specs.declared.key.Dest.TheVariants.{Router}
use Rattle.ospf_types.specs.Boundary.{Preference, preference_cmp, class_of}
use Rattle.ospf_types.specs.Hops.{hop_cmp}
use Rattle.ospf_types.specs.Intra.{E}
use Rattle.route_choice.specs.Choices.{Chosen, IsChosen}
use Rattle.intra.specs.ReachedRouter.{ReachedValue}
use Rattle.route_choice.specs.Takes.{OnlyOffer, OfferedBySome}
use Rattle.route_choice.proofs.Taking.{takes_none, takes_same, takes_two, taken_chosen}
use Rattle.external.specs.Choosing.{TakesHops, HopsOffer, AsbrOffers}
use Rattle.external.specs.Inputs.{ExternalInputsValue}
use Rattle.external.specs.AsbrRoute.{PreferredValue, ReachedOffers, EntryOffers, RouterOffers, IsPreferredFor}

-- the choice among next hops so far
abbrev HopChoice : Type 0
HopChoice = Option (Chosen Preference NextHop)

abbrev pub preferred_at : ℕ → ℕ → ℕ → Preference
preferred_at class cost area = record { class = class; cost = cost; area = area }

-- ---- an area

module _ (compat : Bool) (area : ℕ) where
  pub takes_unreached : (c : HopChoice) → TakesHops (AsbrOffers compat area None) c c
  takes_unreached c = takes_none (AsbrOffers compat area None) (λ p h w. w.2) c

  module _ (r : ReachedValue) where
    -- no AS boundary router
    pub takes_no_boundary : (0 < bit_and r.flags E → ⊥) → (c : HopChoice) → TakesHops (AsbrOffers compat area (Some r)) c c
    takes_no_boundary clear c = takes_none (AsbrOffers compat area (Some r)) (λ p h w. clear w.2.0) c

    pub takes_boundary : (key : Preference) → key ≡ preferred_at (class_of compat (Some area)) r.distance area → 0 < bit_and r.flags E → (old new : HopChoice) → TakesHops (HopsOffer r.hops key) old new → TakesHops (AsbrOffers compat area (Some r)) old new
    takes_boundary key is boundary old new takes = takes_same (HopsOffer r.hops key) (AsbrOffers compat area (Some r)) (λ p h. (
      λ w.
          let at : p ≡ preferred_at (class_of compat (Some area)) r.distance area = w.2.0 ∙ is in
          (ap (λ (t : Preference). t.area) at, ap (λ (t : Preference). t.class) at, (boundary, sym (ap (λ (t : Preference). t.cost) at), subst (Contains r.hops) (sym w.2.1) w.1)),
      λ w. (h, w.2.2, ((λ i. preferred_at (w.1 i) (sym w.2.1 i) (w.0 i)) ∙ sym is, refl)),
    )) old new takes

-- ---- the inter-area entry

pub takes_no_entry : (compat : Bool) (c : HopChoice) → TakesHops (EntryOffers compat None) c c
takes_no_entry compat c = takes_none (EntryOffers compat None) (λ p h w. let e = w.2 in absurd cc) c

module _ (compat : Bool) (e : Entry) where
  same_entry : (other : Entry) → Some e ≡ Some other → e ≡ other
  same_entry other is = cc

  pub takes_no_area : e.area ≡ None → (c : HopChoice) → TakesHops (EntryOffers compat (Some e)) c c
  takes_no_area none c = takes_none (EntryOffers compat (Some e)) (λ p h w.
      let same : e ≡ w.0 = same_entry w.0 w.2 in
      let both : None ≡ Some p.area = sym none ∙ ap (λ (t : Entry). t.area) same ∙ w.3 in
      absurd cc) c

  pub takes_entry : (area : ℕ) → e.area ≡ Some area → (key : Preference) → key ≡ preferred_at (class_of compat None) e.cost area → (old new : HopChoice) → TakesHops (OfferedBySome e.paths (λ (path : Path). OnlyOffer key path.hop)) old new → TakesHops (EntryOffers compat (Some e)) old new
  takes_entry area in_area key is old new takes = takes_same (OfferedBySome e.paths (λ (path : Path). OnlyOffer key path.hop)) (EntryOffers compat (Some e)) (λ p h. (
    λ w.
        let at : p ≡ preferred_at (class_of compat None) e.cost area = w.2.0 ∙ is in
        (e, w.0, refl, in_area ∙ ap (λ (t : Preference). Some t.area) (sym at), ap (λ (t : Preference). t.cost) (sym at), ap (λ (t : Preference). t.class) at, w.1, sym w.2.1),
    λ w.
        let same : e ≡ w.0 = same_entry w.0 w.2 in
        let both : Some p.area ≡ Some area = sym w.3 ∙ sym (ap (λ (t : Entry). t.area) same) ∙ in_area in
        let there : p.area ≡ area = cc in
        let cost : p.cost ≡ e.cost = sym (ap (λ (t : Entry). t.cost) same ∙ w.4) in
        (w.1, subst (λ (t : Entry). Contains t.paths w.1) (sym same) w.6, ((λ i. preferred_at (w.5 i) (cost i) (there i)) ∙ sym is, sym w.7)),
  )) old new takes

-- ---- all of them

module _ (v : ExternalInputsValue) (router : ℕ) where
  pub chosen_from : (none mid last c : HopChoice) → none ≡ None → last ≡ c → TakesHops (OfferedBySome v.areas (ReachedOffers v router)) none mid → TakesHops (EntryOffers v.compat (get v.inter.entries (Router router))) mid last → IsChosen preference_cmp hop_cmp (RouterOffers v router) c
  chosen_from none mid last c start end areas entry =
      let all : TakesHops (RouterOffers v router) none last = takes_two (OfferedBySome v.areas (ReachedOffers v router)) (EntryOffers v.compat (get v.inter.entries (Router router))) none mid last areas entry in
      subst (IsChosen preference_cmp hop_cmp (RouterOffers v router)) end
      (taken_chosen (RouterOffers v router) last (subst (λ (s : HopChoice). TakesHops (RouterOffers v router) s last) start all))

  pub preferred_from : (c : Chosen Preference NextHop) (w : PreferredValue) → w ≡ record { preference = c.key; hops = c.items } → IsChosen preference_cmp hop_cmp (RouterOffers v router) (Some c) → IsPreferredFor (RouterOffers v router) (Some w)
  preferred_from c w is h = subst (λ (t : PreferredValue). IsPreferredFor (RouterOffers v router) (Some t)) (sym is) h
