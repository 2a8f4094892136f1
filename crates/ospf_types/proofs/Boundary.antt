-- The preferred entry of an AS boundary router is the same where each summary offers by itself.
use Rattle.std.proofs.Common.{◌≡◌, ◌≢◌, ℕ, zero, suc, ◌<◌, ◌≤◌, List, Ordering, refl, sym, ap, subst, ◌∙◌, inl, inr, ⊎_elim, arith, Some, None}
use Rattle.std.specs.Prelude.{◌↔◌}
use Rattle.std.specs.List.{Contains}
use Rattle.std.specs.declared.cmp.Ordering.TheVariants.{Less, Equal}
use Rattle.std.specs.Ordering.{nat_cmp, ordering_then}
use Rattle.std.specs.Cmp.{nat_cmp_is}
use Rattle.std.proofs.lemmas.Bool.{cases_lt}
use Rattle.ospf_types.specs.declared.hop.NextHop.{NextHop}
use Rattle.ospf_types.specs.declared.hop.Path.{Path}
use Rattle.ospf_types.specs.Best.{IsBest}
use Rattle.ospf_types.specs.Inputs.{Inputs, Area}
use Rattle.ospf_types.specs.Inter.{IsUsableSummary, through}
use Rattle.ospf_types.specs.Intra.{ReachesBoundary}
use Rattle.ospf_types.proofs.Orders.{preference_total}
use Rattle.ospf_types.specs.Boundary.{Preference, class_of, preference_cmp, BoundaryInterOffers, IsBoundaryPath, BoundaryOffers, BoundarySummaryOffers, SummedOffers, IsPreferred}

-- the same class at a lesser cost is preferred
cheaper : (class area cost : ℕ) (k : Preference) → k.class ≡ class → cost < k.cost → preference_cmp (record { class = class; cost = cost; area = area }) k ≡ Less
cheaper class area cost k same less =
    let rest : Ordering = nat_cmp k.area area in
    let level : nat_cmp class class ≡ Equal = sym (nat_cmp_is class class Equal refl) in
    let first : nat_cmp cost k.cost ≡ Less = sym (nat_cmp_is cost k.cost Less less) in
    subst (λ (c : ℕ). ordering_then (nat_cmp class c) (ordering_then (nat_cmp cost k.cost) rest) ≡ Less) (sym same)
    (ap (λ (o : Ordering). ordering_then o (ordering_then (nat_cmp cost k.cost) rest)) level ∙ ap (λ (o : Ordering). ordering_then o rest) first)

module _ (s : Inputs) (router : ℕ) where
  -- what a path of the inter-area entry offers, its summary offers by itself
  summed : (k : Preference) (h : NextHop) → BoundaryOffers s router k h → SummedOffers s router k h
  summed k h offer =
      ⊎_elim
      (λ (inside : (a : Area) × Contains s.areas a × (a.id ≡ k.area) × ReachesBoundary s a router k.cost h × (k.class ≡ class_of s.compat (Some a.id))). (inside.0, inside.1, inside.2, inl (inside.3, inside.4)))
      (λ (inter : (path : Path) × IsBoundaryPath s router k.area k.cost path × (path.hop ≡ h) × (k.class ≡ class_of s.compat None)).
      let o = inter.1.offered in
      let usable = o.9 in
      let hop : o.4 ≡ h = sym (ap (λ (p : Path). p.hop) o.11) ∙ inter.2 in
      (o.0, usable.examined.area, o.5, inr (o.10, (o.1, o.2, o.3, o.6, o.7, o.8, subst (λ (w : NextHop). IsUsableSummary s o.0 o.1 o.2 k.cost w) hop usable), inter.3)))
      offer

  -- what is offered between areas at some cost is an offer of that class
  told : (other : ℕ) (p : Path) (w : BoundaryInterOffers s router other p) → SummedOffers s router (record { class = class_of s.compat None; cost = other; area = w.0 }) w.1.4
  told other p w =
      let o = w.1 in
      (o.0, o.9.examined.area, o.5, inr (o.10, (o.1, o.2, o.3, o.6, o.7, o.8, o.9), refl))

  -- an offer in whose class nothing is offered at a lesser cost is one of the entry
  kept : (k : Preference) (h : NextHop) → SummedOffers s router k h → ((other : ℕ) (p : Path) → (w : BoundaryInterOffers s router other p) → k.class ≡ class_of s.compat None → other < k.cost → ⊥) → BoundaryOffers s router k h
  kept k h offer none =
      let a = offer.0 in
      ⊎_elim
      (λ (inside : ReachesBoundary s a router k.cost h × (k.class ≡ class_of s.compat (Some a.id))). inl (a, offer.1, offer.2, inside.0, inside.1))
      (λ (inter : ((distance : ℕ) (other : NextHop) → ¬ ReachesBoundary s a router distance other) × BoundarySummaryOffers s a router k.cost h × (k.class ≡ class_of s.compat None)).
      let b = inter.1 in
      inr (
        through b.0.header.router h,
        record {
          offered = (a, b.0, b.1, b.2, h, offer.2, b.3, b.4, b.5, b.6, inter.0, refl);
          least = λ other p w. ⊎_elim (λ (lt : other < k.cost). absurd (none other p w inter.2 lt)) (λ (le : k.cost ≤ other). le) (cases_lt other k.cost);
        },
        refl,
        inter.2,
      ))
      offer.3

  -- nothing is offered by itself below the best that is offered by the entry
  none_below : (best : Preference) → ((k : Preference) (h : NextHop) → BoundaryOffers s router k h → preference_cmp k best ≢ Less) → (bound : ℕ) (k : Preference) (h : NextHop) → k.cost < bound → SummedOffers s router k h → preference_cmp k best ≡ Less → ⊥
  none_below best least zero k h under offer less = omega (arith, under)
  none_below best least (suc bound) k h under offer less =
      least k h
      (kept k h offer (λ other p w class lower.
      let lesser : Preference = record { class = class_of s.compat None; cost = other; area = w.0 } in
      none_below best least bound lesser w.1.4 (omega arith) (told other p w) (preference_total.trans lesser k best (cheaper (class_of s.compat None) w.0 other k class lower) less)))
      less

  from_entry : (preference : Preference) (hops : List NextHop) → IsPreferred s router preference hops → IsBest preference_cmp (SummedOffers s router) preference hops
  from_entry preference hops best =
      let least : (k : Preference) (h : NextHop) → SummedOffers s router k h → preference_cmp k preference ≢ Less =
      λ k h offer less. none_below preference best.least (suc k.cost) k h (omega arith) offer less in
      record {
        stands = (best.stands.0, summed preference best.stands.0 best.stands.1);
        least = least;
        union = λ h. (
          λ c. summed preference h ((best.union h).0 c),
          λ offer. (best.union h).1 (kept preference h offer (λ other p w class lower. least (record { class = class_of s.compat None; cost = other; area = w.0 }) w.1.4 (told other p w) (cheaper (class_of s.compat None) w.0 other preference class lower))),
        );
      }

  to_entry : (preference : Preference) (hops : List NextHop) → IsBest preference_cmp (SummedOffers s router) preference hops → IsPreferred s router preference hops
  to_entry preference hops best =
      let new : (h : NextHop) → SummedOffers s router preference h → BoundaryOffers s router preference h =
      λ h offer. kept preference h offer (λ other p w class lower. best.least (record { class = class_of s.compat None; cost = other; area = w.0 }) w.1.4 (told other p w) (cheaper (class_of s.compat None) w.0 other preference class lower)) in
      record {
        stands = (best.stands.0, new best.stands.0 best.stands.1);
        least = λ k h offer. best.least k h (summed k h offer);
        union = λ h. (λ c. new h ((best.union h).0 c), λ offer. (best.union h).1 (summed preference h offer));
      }

  -- the preferred entry says what it said without the inter-area entry
  pub same_preferred : (preference : Preference) (hops : List NextHop) → IsPreferred s router preference hops ↔ IsBest preference_cmp (SummedOffers s router) preference hops
  same_preferred preference hops = (from_entry preference hops, to_entry preference hops)
