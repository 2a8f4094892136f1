-- The way by an entry leads where the match of the address does.
use Rattle.std.proofs.Common.{◌≡◌, ℕ, List, map, Some, None, refl, sym, ap, subst, ◌∙◌}
use Rattle.std.specs.Prelude.{◌↔◌}
use Rattle.std.specs.List.{Contains}
use Rattle.ospf_types.proofs.Elements.{mapped_element, mapped_from}
use Rattle.ospf_types.specs.declared.entry.Entry.{Entry}
use Rattle.ospf_types.specs.declared.hop.NextHop.{NextHop}
use Rattle.ospf_types.specs.declared.hop.Path.{Path}
use Rattle.ospf_types.specs.declared.prefix.Prefix.{Prefix}
use Rattle.ospf_types.specs.External.{toward}
use Rattle.external.specs.Forwards.{WayValue, WayOffers, LeadsByMatch, class_at, internal_entry}
use Rattle.external.specs.Inputs.{ExternalInputsValue}

module _ (v : ExternalInputsValue) (address : ℕ) (p : Prefix) where
  -- over an entry
  pub leads_by : (e : Entry) → internal_entry v p ≡ Some e → (w : WayValue) → w.class ≡ class_at v p e.area → w.cost ≡ e.cost → w.hops ≡ map (λ (path : Path). toward address path.hop) e.paths → (class cost : ℕ) (h : NextHop) → WayOffers (Some w) class cost h ↔ LeadsByMatch v address (Some p) class cost h
  leads_by e known w is_class is_cost is_hops class cost h = (
    λ o.
        let from = mapped_from (λ (path : Path). toward address path.hop) e.paths h (subst (λ (hops : List NextHop). Contains hops h) is_hops o.2) in
        (from.0.hop, (e, from.0, known, sym is_cost ∙ o.1, sym is_class ∙ o.0, from.1, refl), sym from.2),
    λ l.
        let both : Some e ≡ Some l.1.0 = sym known ∙ l.1.2 in
        let same : e ≡ l.1.0 = cc in
        let path : Contains e.paths l.1.1 = subst (λ (t : Entry). Contains t.paths l.1.1) (sym same) l.1.5 in (
          is_class ∙ ap (λ (t : Entry). class_at v p t.area) same ∙ l.1.4,
          is_cost ∙ ap (λ (t : Entry). t.cost) same ∙ l.1.3,
          subst (λ (hops : List NextHop). Contains hops h) (sym is_hops)
              (subst (Contains (map (λ (t : Path). toward address t.hop) e.paths)) (ap (toward address) l.1.6 ∙ sym l.2) (mapped_element (λ (t : Path). toward address t.hop) e.paths l.1.1 path)),
        ),
  )

  -- without an entry
  pub leads_nowhere : internal_entry v p ≡ None → (class cost : ℕ) (h : NextHop) → WayOffers None class cost h ↔ LeadsByMatch v address (Some p) class cost h
  leads_nowhere none class cost h = (
    λ o. absurd o,
    λ l. let both : None ≡ Some l.1.0 = sym none ∙ l.1.2 in absurd cc,
  )
