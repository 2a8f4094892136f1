-- The sources of a summary by the routes that are kept are its sources by the definitions (RFC
-- 2328, 12.4.3).
--   network_due, router_due: what is due to a network or to an AS boundary router
use Rattle.std.proofs.Common.{◌≡◌, ◌≢◌, ℕ, ◌<◌, Option, Some, None, refl, sym, ap, subst, ◌∙◌, inl, inr}
use Rattle.std.specs.Prelude.{◌↔◌}
use Rattle.std.specs.FinMap.{get}
use Rattle.std.specs.List.{Contains}
use Rattle.ospf_types.specs.declared.config.Range.{Range}
use Rattle.ospf_types.specs.declared.config.Stub.{Stub}
use Rattle.ospf_types.specs.declared.entry.Entry.{Entry}
use Rattle.ospf_types.specs.declared.key.Dest.TheVariants.{Net}
use Rattle.ospf_types.specs.declared.prefix.Prefix.{Prefix}
use Rattle.ospf_types.specs.Boundary.{Preference}
use Rattle.ospf_types.specs.Inputs.{Inputs, Area}
use Rattle.ospf_types.specs.Inter.{LSInfinity}
use Rattle.ospf_types.specs.Routes.{IsEntry}
use Rattle.ospf_types.specs.Summaries.{HasHop, IsTold, IsComponent, IsGreatest, Gives, IsNetworkDue, IsRouterDue}
use Rattle.active_ranges.specs.declared.member.RangeMember.{RangeMember}
use Rattle.summaries.specs.Giving.{Enters, IsOutsideRanges, IsComponentIn, IntraGives, InterGives, RangeGives, GivesIn, IsNetworkDueIn, IsRouterDueIn}
use Rattle.summaries.specs.Inputs.{SummaryInputsValue}
use Rattle.summaries.specs.Right.{AreInputsOf}
use Rattle.summaries.proofs.Areas.{area_of, config_of, outside_from, outside_to, advertised_to}
use Rattle.summaries.proofs.Entries.{intra_is, intra_there, inter_is, inter_there, preferred_is, preferred_there}
use Rattle.summaries.proofs.HopsStay.{entry_area, entry_over, preferred_over, may_enter}

-- the greatest of numbers with one property is the greatest of those with the other
greatest_same : (P Q : ℕ → Type 0) → ((n : ℕ) → P n ↔ Q n) → (n : ℕ) → IsGreatest P n → IsGreatest Q n
greatest_same P Q same n is = record { holds = (same n).0 is.holds; greatest = λ m q. is.greatest m ((same m).1 q) }

module _ (s : Inputs) (v : SummaryInputsValue) (are : AreInputsOf s v) (a : Area) where
  told : (b : Area) (p : Prefix) (e : Entry) → IsEntry s p e → Contains s.areas b → e.area ≡ Some b.id → b.id ≢ a.id → e.cost < LSInfinity → IsTold s a b p e
  told b p e entry here through foreign finite = record {
    entry = entry;
    of_area = (here, through);
    may = may_enter s are.interfaces a b.id e.cost (λ h. HasHop e h) (entry_over s p e b.id entry through) foreign finite;
  }

  -- ---- the networks of a range

  module _ (b : Area) (here : Contains s.areas b) (r : Range) (configured : Contains b.ranges r) where
    component_from : b.id ≢ a.id → (cost : ℕ) → IsComponentIn v b.id r.prefix cost → IsComponent s a b r cost
    component_from foreign cost c =
        let network : Prefix = c.0.0 in
        let m : RangeMember = record { range = r.prefix; area = b.id; network = network } in
        let w = (are.ranges.members m cost).0 c.0.1 in
        let e = w.0 in
        let is = intra_is s network (get v.intra.entries network) e (are.intra.entries network) w.1 in
        (network, e, told b network e is.0 here w.2 foreign (subst (λ n. n < LSInfinity) (sym w.3) c.1), is.1, w.5, w.3)

    component_to : (cost : ℕ) → IsComponent s a b r cost → IsComponentIn v b.id r.prefix cost
    component_to cost c =
        let network : Prefix = c.0 in
        let e = c.1 in
        let t = c.2 in
        let x = config_of s v are b here in
        let held = intra_there s network (get v.intra.entries network) e (are.intra.entries network) t.entry c.3 in
        let m : RangeMember = record { range = r.prefix; area = b.id; network = network } in
        let member = (are.ranges.members m cost).1 (e, held, t.of_area.1, c.5, (x.0, r, x.1, sym x.2, subst (λ rs. Contains rs r) x.3 configured, refl), c.4) in
        ((network, member), subst (λ n. n < LSInfinity) c.5 t.may.finite)

    components : b.id ≢ a.id → (cost : ℕ) → IsComponentIn v b.id r.prefix cost ↔ IsComponent s a b r cost
    components foreign cost = (component_from foreign cost, component_to cost)

  -- ---- networks

  module _ (p : Prefix) (metric : ℕ) where
    intra_from : IntraGives v a.id p metric → Gives s a p metric
    intra_from g =
        let e = g.0 in
        let enters = g.3 in
        let is = intra_is s p (get v.intra.entries p) e (are.intra.entries p) g.2 in
        let w = entry_area s p e g.1 is.0 enters.through_area in
        let b = w.0 in
        let through : e.area ≡ Some b.id = enters.through_area ∙ ap Some (sym w.2) in
        (b, inr (inl (e, told b p e is.0 w.1 through (λ same. enters.foreign (sym w.2 ∙ same)) enters.finite, is.1, g.5, outside_from s v are b w.1 p (subst (λ n. IsOutsideRanges v.areas n p) (sym w.2) g.4))))

    inter_from : InterGives v a.id p metric → Gives s a p metric
    inter_from g =
        let e = g.0 in
        let enters = g.3 in
        let is = inter_is s p (get v.inter.entries (Net p)) e (are.inter.networks p) g.2 in
        let w = entry_area s p e g.1 is.0 enters.through_area in
        let b = w.0 in
        let through : e.area ≡ Some b.id = enters.through_area ∙ ap Some (sym w.2) in
        (b, inl (e, told b p e is.0 w.1 through (λ same. enters.foreign (sym w.2 ∙ same)) enters.finite, is.1, g.4))

    range_from : RangeGives v a.id p metric → Gives s a p metric
    range_from g =
        let c = g.1 in
        let w = area_of s v are c.0 c.2 in
        let b = w.0 in
        let r : Range = c.1 in
        let through : g.0 ≡ b.id = sym c.3 ∙ sym w.2 in
        let configured : Contains b.ranges r = subst (λ rs. Contains rs r) (sym w.3) c.4 in
        let components_at : IsGreatest (IsComponentIn v b.id r.prefix) metric = subst (λ q. IsGreatest (IsComponentIn v b.id q) metric) (sym c.5) (subst (λ n. IsGreatest (IsComponentIn v n p) metric) through g.3) in
        let foreign : b.id ≢ a.id = λ same. g.2 (through ∙ same) in
        (b, inr (inr (r, w.1, configured, c.6, c.5, greatest_same (IsComponentIn v b.id r.prefix) (IsComponent s a b r) (components b w.1 r configured foreign) metric components_at)))

    gives_from : GivesIn v a.id p metric → Gives s a p metric
    gives_from g = elim g [ inl intra ↦ intra_from intra | inr others ↦ elim others [ inl inter ↦ inter_from inter | inr range ↦ range_from range ] ]

    enters_of : (b : Area) (e : Entry) → IsTold s a b p e → Enters a.id b.id e
    enters_of b e t = record { through_area = t.of_area.1; foreign = t.may.foreign; finite = t.may.finite }

    gives_to : Gives s a p metric → GivesIn v a.id p metric
    gives_to g =
        let b = g.0 in
        elim g.1 [
          | inl w ↦ inr (inl (w.0, b.id, inter_there s p (get v.inter.entries (Net p)) w.0 (are.inter.networks p) w.1.entry w.2, enters_of b w.0 w.1, w.3))
          | inr others ↦ elim others [
            | inl w ↦ inl (w.0, b.id, intra_there s p (get v.intra.entries p) w.0 (are.intra.entries p) w.1.entry w.2, enters_of b w.0 w.1, outside_to s v are b w.1.of_area.0 p w.4, w.3)
            | inr w ↦
                let r : Range = w.0 in
                let greatest = w.5 in
                let foreign : b.id ≢ a.id = greatest.holds.2.may.foreign in
                let components_at : IsGreatest (IsComponentIn v b.id r.prefix) metric = greatest_same (IsComponent s a b r) (IsComponentIn v b.id r.prefix) (λ n. let c = components b w.1 r w.2 foreign n in (c.1, c.0)) metric greatest in
                inr (inr (b.id, advertised_to s v are b w.1 p r w.2 w.4 w.3, foreign, subst (λ q. IsGreatest (IsComponentIn v b.id q) metric) w.4 components_at))
          ]
        ]

  module _ (p : Prefix) where
    greatest_from : (metric : ℕ) → IsGreatest (GivesIn v a.id p) metric → IsGreatest (Gives s a p) metric
    greatest_from = greatest_same (GivesIn v a.id p) (Gives s a p) (λ n. (gives_from p n, gives_to p n))

    greatest_to : (metric : ℕ) → IsGreatest (Gives s a p) metric → IsGreatest (GivesIn v a.id p) metric
    greatest_to = greatest_same (Gives s a p) (GivesIn v a.id p) (λ n. (gives_to p n, gives_from p n))

    pub network_due : (stub : Option Stub) (metric : ℕ) → IsNetworkDueIn v a.id stub p metric ↔ IsNetworkDue s a stub p metric
    network_due None metric = (greatest_from metric, greatest_to metric)
    network_due (Some stub) metric = (
      λ due. elim due [ inl default ↦ inl default | inr w ↦ inr (w.0, w.1, greatest_from metric w.2) ],
      λ due. elim due [ inl default ↦ inl default | inr w ↦ inr (w.0, w.1, greatest_to metric w.2) ],
    )

  -- ---- AS boundary routers

  pub router_due : (router : ℕ) (stub : Option Stub) (metric : ℕ) → IsRouterDueIn v a.id stub router metric ↔ IsRouterDue s a stub router metric
  router_due router None metric = (
    λ due.
        let w = due.0 in
        let k = w.preference in
        let best = preferred_is s router (get v.external.preferred router) w (are.external.preferred router) due.1 in
        (k, w.hops, best, may_enter s are.interfaces a k.area k.cost (Contains w.hops) (preferred_over s router k w.hops best) due.2 due.3, sym due.4),
    λ due.
        let w = preferred_there s router (get v.external.preferred router) (are.external.preferred router) due.0 due.1 due.2 in
        let may = due.3 in (
          w.0,
          w.1,
          λ same. may.foreign (ap (λ (k : Preference). k.area) (sym w.2) ∙ same),
          subst (λ (k : Preference). k.cost < LSInfinity) (sym w.2) may.finite,
          ap (λ (k : Preference). k.cost) w.2 ∙ sym due.4,
        ),
  )
  router_due router (Some stub) metric = (λ due. due, λ due. due)
