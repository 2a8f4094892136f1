-- Active ranges are as defined.
use Rattle.std.proofs.Common.{◌≡◌, List, [], ◌∷◌, Option, Some, None, refl, sym, ap, subst, ◌∙◌, inl, inr}
use Rattle.std.specs.Prelude.{Contains}
use Rattle.std.specs.FinMap.{get}
use Rattle.ospf_types.specs.declared.config.AreaConfig.{AreaConfig}
use Rattle.ospf_types.specs.declared.config.Range.{Range}
use Rattle.ospf_types.specs.declared.entry.Entry.{Entry}
use Rattle.ospf_types.specs.declared.prefix.Prefix.{Prefix}
use Rattle.ospf_types.specs.Address.{Covers}
use Rattle.ospf_types.specs.Inputs.{Inputs, Area}
use Rattle.ospf_types.specs.Intra.{AreaCost, IntraOffers, IsIntra}
use Rattle.ospf_types.specs.Ranges.{IsActiveRange, IsActivePrefix}
use Rattle.ospf_types.proofs.Elements.{no_element, first_element, later_element, first_or_later}
use Rattle.ospf_types.proofs.OneBest.{same_key}
use Rattle.ospf_types.proofs.Orders.{area_cost_total, area_cost_exact}
use Rattle.intra.specs.Intras.{EntriesByPrefix, IsEntryFor}
use Rattle.active_ranges.specs.Active.{ActiveValue, AreRangesOf, IsActiveIn}
use Rattle.active_ranges.specs.Right.{AreConfigured, IsRightFor}
use Rattle.active_ranges.specs.declared.member.RangeMember.{RangeMember}

-- ---- areas that are configured so

pub configured_as : (bs : List Area) (areas : List AreaConfig) → AreConfigured bs areas → (a : AreaConfig) → Contains areas a → (b : Area) × Contains bs b × (b.id ≡ a.id) × (b.ranges ≡ a.ranges)
configured_as [] [] are a c = absurd (no_element a c)
configured_as [] (x ∷ areas) are a c = absurd are
configured_as (b ∷ bs) [] are a c = absurd are
configured_as (b ∷ bs) (x ∷ areas) are a c = elim (first_or_later x a areas c) [
  | inl e ↦ (b, first_element b bs, are.0 ∙ ap (λ (y : AreaConfig). y.id) (sym e), are.1 ∙ ap (λ (y : AreaConfig). y.ranges) (sym e))
  | inr later ↦ let w = configured_as bs areas are.2 a later in (w.0, later_element b w.0 bs w.1, w.2, w.3)
]

pub configured_from : (bs : List Area) (areas : List AreaConfig) → AreConfigured bs areas → (b : Area) → Contains bs b → (a : AreaConfig) × Contains areas a × (b.id ≡ a.id) × (b.ranges ≡ a.ranges)
configured_from [] [] are b c = absurd (no_element b c)
configured_from [] (x ∷ areas) are b c = absurd are
configured_from (y ∷ bs) [] are b c = absurd are
configured_from (y ∷ bs) (x ∷ areas) are b c = elim (first_or_later y b bs c) [
  | inl e ↦ (x, first_element x areas, ap (λ (z : Area). z.id) e ∙ are.0, ap (λ (z : Area). z.ranges) e ∙ are.1)
  | inr later ↦ let w = configured_from bs areas are.2 b later in (w.0, later_element x w.0 areas w.1, w.2, w.3)
]

-- ---- both ways

module _ (s : Inputs) (areas : List AreaConfig) (entries : EntriesByPrefix) (v : ActiveValue) (same : AreConfigured s.areas areas) (right : (p : Prefix) → IsEntryFor (IntraOffers s p) (get entries p)) (kept : AreRangesOf areas entries v) where
  active_right : (p : Prefix) → IsActiveIn v p → IsActivePrefix s p
  active_right p w =
      let m = w.0 in
      let is = (kept.members m w.1).0 w.2 in
      let e = is.0 in
      let entry : IsEntryFor (IntraOffers s m.network) (Some e) = subst (λ (o : Option Entry). IsEntryFor (IntraOffers s m.network) o) is.1 (right m.network) in
      let key = entry.0 in
      let configured = is.4 in
      let b = configured_as s.areas areas same configured.0 configured.2 in
      let through : Some key.1 ≡ Some m.area = sym (ap (λ (x : Entry). x.area) entry.3) ∙ is.2 in
      let area : key.1 ≡ m.area = cc in
      let at : key.1 ≡ b.0.id = area ∙ sym configured.3 ∙ sym b.2 in
      let whole : key ≡ (key.0, b.0.id) = λ i. (key.0, at i) in
      let active : IsActiveRange s b.0 configured.1 = record {
        area = b.1;
        range = subst (λ (rs : List Range). Contains rs configured.1) (sym b.3) configured.4;
        network = (
          m.network,
          key.0,
          e.paths,
          subst (λ (k : AreaCost). IsIntra s m.network k e.paths) whole entry.1,
          subst (λ (q : Prefix). Covers q m.network) (sym configured.5) is.5,
        );
      } in
      (b.0, configured.1, active, configured.5 ∙ w.3)

  -- with the entry of the network, if there is one
  active_by : (b : Area) (r : Range) → (active : IsActiveRange s b r) → (o : Option Entry) → get entries active.network.0 ≡ o → IsEntryFor (IntraOffers s active.network.0) o → IsActiveIn v r.prefix
  active_by b r active None held none = let best = active.network.3 in absurd (none (active.network.1, b.id) best.stands.0 best.stands.1)
  active_by b r active (Some e) held entry =
      let n = active.network in
      let a = configured_from s.areas areas same b active.area in
      let key = same_key area_cost_total area_cost_exact (IntraOffers s n.0) entry.0 (n.1, b.id) e.paths n.2 entry.1 n.3 in
      let m : RangeMember = record { range = r.prefix; area = b.id; network = n.0 } in
      let through : e.area ≡ Some b.id = ap (λ (x : Entry). x.area) entry.3 ∙ ap (λ (k : AreaCost). Some k.1) key in
      let here = (kept.members m e.cost).1 (e, held, through, refl, (a.0, r, a.1, sym a.2, subst (λ (rs : List Range). Contains rs r) a.3 active.range, refl), n.4) in
      (m, e.cost, here, refl)

  pub ranges_right : IsRightFor s v
  ranges_right p = (
    active_right p,
    λ w. subst (λ (q : Prefix). IsActiveIn v q) w.3 (active_by w.0 w.1 w.2 (get entries w.2.network.0) refl (right w.2.network.0)),
  )
