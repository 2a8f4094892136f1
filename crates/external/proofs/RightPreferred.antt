-- The preferred entries of AS boundary routers are as defined (RFC 2328, 16.4 and 16.4.1).
--   router_offered: what is offered to a router is what the definitions say
use Rattle.std.proofs.Common.{◌≡◌, ◌≢◌, ℕ, ◌≤◌, Bool, List, Option, Some, None, refl, sym, ap, subst, ◌∙◌, inl, inr, arith}
use Rattle.std.specs.Prelude.{◌↔◌}
use Rattle.std.specs.declared.cmp.Ordering.TheVariants.{Less}
use Rattle.std.specs.Cmp.{nat_cmp_is}
use Rattle.std.specs.FinMap.{get}
use Rattle.std.specs.List.{Contains}
use Rattle.std.specs.Ordering.{nat_cmp}
use Rattle.std.proofs.lemmas.Bool.{cases_lt}
use Rattle.ospf_types.specs.declared.entry.Entry.{Entry}
use Rattle.ospf_types.specs.declared.hop.NextHop.{NextHop}
use Rattle.ospf_types.specs.declared.hop.Path.{Path}
use Rattle.ospf_types.specs.declared.key.Dest.TheVariants.{Router}
use Rattle.ospf_types.specs.Boundary.{Preference, class_of, AreaBoundaryOffers, BoundaryInterOffers, IsBoundaryPath, BoundaryOffers}
use Rattle.ospf_types.specs.Inputs.{Inputs, Area}
use Rattle.ospf_types.specs.Intra.{E}
use Rattle.ospf_types.specs.Ranges.{IsExamined}
use Rattle.ospf_types.proofs.Elements.{mapped_element, mapped_from}
use Rattle.ospf_types.proofs.Examined.{examined_once}
use Rattle.intra.specs.Intras.{reached_at}
use Rattle.intra.specs.ReachedRouter.{HandsOut}
use Rattle.inter.specs.Inters.{IsEntryFor}
use Rattle.inter.specs.Right.{IsEntryOf}
use Rattle.inter.proofs.Right.{reached_right}
use Rattle.external.specs.Inputs.{ExternalInputsValue}
use Rattle.external.specs.AsbrRoute.{EntryOffers, RouterOffers}
use Rattle.external.specs.Right.{AreInputsOf}

not_less : (m n : ℕ) → nat_cmp m n ≢ Less → n ≤ m
not_less m n never = elim (cases_lt m n) [ inl lt ↦ absurd (never (sym (nat_cmp_is m n Less lt))) | inr le ↦ le ]

-- ---- the inter-area entry

module _ (s : Inputs) (router : ℕ) where
  -- a path of the router's inter-area entry, with its next hop
  abbrev PathOffers : Preference → NextHop → Type 0
  PathOffers k h = (path : Path) × IsBoundaryPath s router k.area k.cost path × (path.hop ≡ h) × (k.class ≡ class_of s.compat None)

  -- what is offered is offered in the examined area
  in_examined : (a : Area) → IsExamined s a → (area cost : ℕ) (path : Path) → a.id ≡ area → BoundaryInterOffers s router cost path → AreaBoundaryOffers s area router cost path
  in_examined a examined area cost path here offer =
      let there : offer.0 ≡ area = sym offer.1.5 ∙ sym (examined_once s a offer.1.0 examined offer.1.9.examined) ∙ here in
      subst (λ (n : ℕ). AreaBoundaryOffers s n router cost path) there offer.1

  module _ (a : Area) (examined : IsExamined s a) (e : Entry) (is : IsEntryFor a.id (BoundaryInterOffers s router) (Some e)) (k : Preference) (h : NextHop) where
    entry_path : EntryOffers s.compat (Some e) k h → PathOffers k h
    entry_path o =
        let both : Some e ≡ Some o.0 = o.2 in
        let same : e ≡ o.0 = cc in
        let offer = (is.1.union o.1).0 (subst (λ (t : Entry). Contains t.paths o.1) (sym same) o.6) in
        let its_area : e.area ≡ Some k.area = ap (λ (t : Entry). t.area) same ∙ o.3 in
        let its_cost : e.cost ≡ k.cost = ap (λ (t : Entry). t.cost) same ∙ o.4 in
        let areas : Some a.id ≡ Some k.area = sym (ap (λ (t : Entry). t.area) is.3) ∙ its_area in
        let area : a.id ≡ k.area = cc in
        let cost : is.0 ≡ k.cost = sym (ap (λ (t : Entry). t.cost) is.3) ∙ its_cost in (
          o.1,
          record {
            offered = subst (λ (c : ℕ). AreaBoundaryOffers s k.area router c o.1) cost (in_examined a examined k.area is.0 o.1 area offer);
            least = λ other p w. subst (λ (c : ℕ). c ≤ other) cost (not_less other is.0 (is.1.least other p w));
          },
          o.7,
          o.5,
        )

    path_entry : PathOffers k h → EntryOffers s.compat (Some e) k h
    path_entry w =
        let offer = w.1.offered in
        let below : is.0 ≤ k.cost = not_less k.cost is.0 (is.1.least k.cost w.0 (k.area, offer)) in
        let above : k.cost ≤ is.0 = w.1.least is.0 is.1.stands.0 is.1.stands.1 in
        let cost : is.0 ≡ k.cost = omega (arith, below, above) in (
          e,
          w.0,
          refl,
          ap (λ (t : Entry). t.area) is.3 ∙ ap Some (examined_once s a offer.0 examined offer.9.examined ∙ offer.5),
          ap (λ (t : Entry). t.cost) is.3 ∙ cost,
          w.3,
          (is.1.union w.0).1 (subst (λ (c : ℕ). BoundaryInterOffers s router c w.0) (sym cost) (k.area, offer)),
          w.2,
        )

  entry_offered : (o : Option Entry) → IsEntryOf s (BoundaryInterOffers s router) o → (k : Preference) (h : NextHop) → EntryOffers s.compat o k h ↔ PathOffers k h
  entry_offered None is k h = (
    λ o. let both : None ≡ Some o.0 = o.2 in absurd cc,
    λ w. elim is [ inl one ↦ absurd (one.2 k.cost w.0 (k.area, w.1.offered)) | inr none ↦ absurd (none.0 w.1.offered.0 w.1.offered.9.examined) ],
  )
  entry_offered (Some e) is k h = elim is [
    | inl one ↦ (entry_path one.0 one.1 e one.2 k h, path_entry one.0 one.1 e one.2 k h)
    | inr none ↦ let both : Some e ≡ None = none.1 in absurd cc
  ]

-- ---- all that is offered

-- what is offered to a router is what the definitions say
pub router_offered : (s : Inputs) (v : ExternalInputsValue) → AreInputsOf s v → (router : ℕ) (k : Preference) (h : NextHop) → RouterOffers v router k h ↔ BoundaryOffers s router k h
router_offered s v are router k h =
    let entry = entry_offered s router (get v.inter.entries (Router router)) (are.inter.routers router) k h in (
      λ o. elim o [
        | inl inside ↦
            let at = mapped_from (λ (a : Area). a.id) s.areas inside.0 (subst (λ (ids : List ℕ). Contains ids inside.0) are.areas inside.1) in
            let reached = reached_right s s.areas v.intra.areas are.intra.routers are.apart at.0 at.1 E router k.cost h (inr refl) in
            inl (
              at.0,
              at.1,
              at.2 ∙ sym inside.2.0,
              reached.1 (subst (λ (id : ℕ). HandsOut E (reached_at v.intra.areas id router) k.cost h) (sym at.2) inside.2.2),
              inside.2.1 ∙ (λ i. class_of (are.compat i) (Some (sym at.2 i))),
            )
        | inr inter ↦ inr (entry.0 (subst (λ (b : Bool). EntryOffers b (get v.inter.entries (Router router)) k h) are.compat inter))
      ],
      λ o. elim o [
        | inl inside ↦
            let reached = reached_right s s.areas v.intra.areas are.intra.routers are.apart inside.0 inside.1 E router k.cost h (inr refl) in
            inl (inside.0.id, subst (λ (ids : List ℕ). Contains ids inside.0.id) (sym are.areas) (mapped_element (λ (a : Area). a.id) s.areas inside.0 inside.1), (sym inside.2, inside.4 ∙ ap (λ (b : Bool). class_of b (Some inside.0.id)) (sym are.compat), reached.0 inside.3))
        | inr inter ↦ inr (subst (λ (b : Bool). EntryOffers b (get v.inter.entries (Router router)) k h) (sym are.compat) (entry.1 inter))
      ],
    )
