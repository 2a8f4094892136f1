-- States that look alike have the same routes in the layers above intra-area routes, too.
--   bodies_alike: the LSAs of each scope are used alike
--   inter_alike: inter-area routes of the one belong to the other
--   external_alike: and so are external routes
use Rattle.std.proofs.Common.{◌≡◌, ℕ, List, map, Option, Some, None, refl, sym, ap, subst, ◌∙◌, inl, inr}
use Rattle.std.specs.Prelude.{◌↔◌, Bool, option_map}
use Rattle.std.specs.List.{Contains}
use Rattle.std.specs.Ordering.{nat_cmp}
use Rattle.std.specs.FinMap.{FinMap, get}
use Rattle.ospf_types.specs.declared.config.AreaConfig.{AreaConfig}
use Rattle.ospf_types.specs.declared.config.Config.{Config}
use Rattle.ospf_types.specs.declared.config.Interface.{Interface}
use Rattle.ospf_types.specs.declared.entry.Entry.{Entry}
use Rattle.ospf_types.specs.declared.hop.NextHop.{NextHop}
use Rattle.ospf_types.specs.declared.key.Dest.{Dest}
use Rattle.ospf_types.specs.declared.key.Dest.TheVariants.{Net, Router}
use Rattle.ospf_types.specs.declared.key.Key.{Key}
use Rattle.ospf_types.specs.declared.key.Scope.{Scope}
use Rattle.ospf_types.specs.declared.key.Scope.TheVariants as scope
use Rattle.ospf_types.specs.declared.prefix.Prefix.{Prefix}
use Rattle.ospf_types.specs.Inputs.{Area, IsActive, IsBorder}
use Rattle.ospf_types.specs.Lsa.{Body}
use Rattle.ospf_types.specs.Ranges.{IsExamined}
use Rattle.lsdb.specs.Databases.{Database}
use Rattle.lsdb.specs.Contents.{body_at}
use Rattle.intra.specs.Intras.{IntraValue}
use Rattle.advertised_index.specs.AdvertisedRoute.{advertised_at}
use Rattle.advertised_index.specs.Indexes.{OfferIndexValue}
use Rattle.active_ranges.specs.Active.{ActiveValue}
use Rattle.inter.specs.Inputs.{ExaminedValue, InterInputsValue}
use Rattle.inter.specs.Inters.{InterValue, IsEntryFor, IsInterOf}
use Rattle.inter.specs.Offers.{OffersBy, OffersOf}
use Rattle.external.specs.Inputs.{ExternalInputsValue}
use Rattle.external.specs.Externals.{ExternalValue, IsEntryFor as IsExternalFor, IsForwardIn, IsExternalOf}
use Rattle.external.specs.Forwards.{ForwardValue, WayValue, IsMatchOf, WayOffers, LeadsByMatch}
use Rattle.external.specs.Offers.{OffersBy as ExternalOffersBy}
use Rattle.event_state.specs.States.{State, LooksAlike, database_of, inputs_of}
use Rattle.route_layers.specs.Trees.{lsas_in}
use Rattle.route_layers.specs.Layers.{IsExaminedOf, IsUpIn, inter_inputs, external_inputs}
use Rattle.route_layers.specs.Works.{area_of}
use Rattle.route_layers.proofs.Examining.{area_in, area_from, active_in, active_from}
use Rattle.route_layers.proofs.Places.{body_used}

-- ---- other LSAs that are used alike

module _ (d e : Database) (alike : (key : Key) → body_at e key ≡ body_at d key) (root : ℕ) (intra : IntraValue) (active : ActiveValue) where
  module _ (area : ℕ) where
    abbrev area_with : Database → ExaminedValue
    area_with lsas = record { area = area; lsas = lsas }

    abbrev summaries_with : Database → InterInputsValue
    summaries_with lsas = record { root = root; examined = Some (area_with lsas); intra = intra; active = active }

    offered_alike : (p : Dest) (o : Option Entry) → IsEntryFor area (OffersOf (summaries_with d) (area_with d) p) o → IsEntryFor area (OffersOf (summaries_with e) (area_with e) p) o
    offered_alike (Net p) o = subst (λ (bodies : Key → Option Body). IsEntryFor area (OffersBy (summaries_with e) area (λ k a. advertised_at root (scope.Area area) k (bodies k) ≡ Some a) (Net p)) o) (λ i key. sym (alike key) i)
    offered_alike (Router r) o = subst (λ (bodies : Key → Option Body). IsEntryFor area (OffersBy (summaries_with e) area (λ k a. advertised_at root (scope.Area area) k (bodies k) ≡ Some a) (Router r)) o) (λ i key. sym (alike key) i)

    summaries_alike : (w : InterValue) → IsInterOf (summaries_with d) w → IsInterOf (summaries_with e) w
    summaries_alike w is = record {
      fresh = is.fresh;
      examined = is.examined;
      index = λ key. is.index key ∙ ap (advertised_at root (scope.Area area) key) (sym (alike key));
      entries = λ p. offered_alike p (get w.entries p) (is.entries p);
    }

  module _ (compat : Bool) (areas : List ℕ) (inter : InterValue) where
    abbrev externals_with : Database → ExternalInputsValue
    externals_with lsas = record { root = root; compat = compat; areas = areas; lsas = lsas; intra = intra; active = active; inter = inter }

    match_alike : (address : ℕ) (p : Option Prefix) → IsMatchOf (externals_with d) address p → IsMatchOf (externals_with e) address p
    match_alike address None is = is
    match_alike address (Some p) is = record { within = is.within; contains = is.contains; matches = is.matches; longest = is.longest }

    leads_alike : (address : ℕ) (p : Option Prefix) (way : Option WayValue) → ((class cost : ℕ) (h : NextHop) → WayOffers way class cost h ↔ LeadsByMatch (externals_with d) address p class cost h)
        → (class cost : ℕ) (h : NextHop) → WayOffers way class cost h ↔ LeadsByMatch (externals_with e) address p class cost h
    leads_alike address None way is = is
    leads_alike address (Some p) way is = is

    forward_alike : (i : OfferIndexValue) (address : ℕ) (f : Option ForwardValue) → IsForwardIn (externals_with d) i address f → IsForwardIn (externals_with e) i address f
    forward_alike i address None is = is
    forward_alike i address (Some f) is = (is.0, record { matched = match_alike address f.matched is.1.matched; way = leads_alike address f.matched f.way is.1.way })

    externals_alike : (w : ExternalValue) → IsExternalOf (externals_with d) w → IsExternalOf (externals_with e) w
    externals_alike w is = record {
      fresh = is.fresh;
      index = λ key. is.index key ∙ ap (advertised_at root scope.As key) (sym (alike key));
      preferred = is.preferred;
      forwards = λ address. forward_alike w.index address (get w.forwards address) (is.forwards address);
      entries = λ p.
          subst (λ (bodies : Key → Option Body). IsExternalFor (ExternalOffersBy (externals_with e) w.preferred w.forwards (λ k a. advertised_at root scope.As k (bodies k) ≡ Some a) p) (get w.entries p)) (λ i key. sym (alike key) i) (is.entries p);
    }

-- ---- states that look alike

pub looks_back : (s t : State) → LooksAlike s t → LooksAlike t s
looks_back s t looks = record { config = sym looks.config; usable = λ at key. sym (looks.usable at key); interfaces = sym looks.interfaces }

pub bodies_alike : (s t : State) → LooksAlike s t → (at : Scope) (key : Key) → body_at (lsas_in (database_of t at)) key ≡ body_at (lsas_in (database_of s at)) key
bodies_alike s t looks at key = body_used t at key ∙ ap (option_map (λ (used : ℕ × Body). used.1)) (sym (looks.usable at key)) ∙ sym (body_used s at key)

module _ (s t : State) (looks : LooksAlike s t) where
  up_alike : (area : ℕ) → IsUpIn s area → IsUpIn t area
  up_alike area = subst (λ (m : FinMap nat_cmp Interface). IsUpIn (record t { interfaces = m }) area) looks.interfaces

  config_alike : (b : AreaConfig) → Contains s.config.areas b → Contains t.config.areas b
  config_alike b = subst (λ (areas : List AreaConfig). Contains areas b) (ap (λ (c : Config). c.areas) looks.config)

  active_alike : (a : Area) → IsActive (inputs_of s) a → (b : Area) × IsActive (inputs_of t) b × (b.id ≡ a.id)
  active_alike a active = let w = active_from s a active in (area_of t w.0, active_in t w.0 (config_alike w.0 w.1) (up_alike w.0.id w.3), w.2)

  border_alike : IsBorder (inputs_of s) → IsBorder (inputs_of t)
  border_alike border =
      let a = active_alike border.0 border.2 in
      let b = active_alike border.1 border.3 in
      (a.0, b.0, a.1, b.1, λ same. border.4 (sym a.2 ∙ same ∙ b.2))

  -- the area that is examined in the one is examined in the other
  examined_alike : (IsBorder (inputs_of t) → IsBorder (inputs_of s)) → (a : Area) → IsExamined (inputs_of s) a → (b : Area) × IsExamined (inputs_of t) b × (b.id ≡ a.id)
  examined_alike back a examined = elim examined.which [
    | inl there ↦
        let w = area_from s a examined.area in
        let id : w.0.id ≡ a.id = ap (λ (x : Area). x.id) w.2 in
        (area_of t w.0, record { area = area_in t w.0 (config_alike w.0 w.1); which = inl (border_alike there.0, id ∙ there.1) }, id)
    | inr alone ↦ let w = active_alike a alone.0 in (w.0, record { area = w.1.0; which = inr (w.1, λ border. alone.1 (back border)) }, w.2)
  ]

module _ (s t : State) (looks : LooksAlike s t) (intra : IntraValue) (active : ActiveValue) where
  router_alike : s.config.router ≡ t.config.router
  router_alike = ap (λ (c : Config). c.router) looks.config

  pub inter_alike : (o : Option ExaminedValue) → IsExaminedOf s o → (w : InterValue) → IsInterOf (inter_inputs s o intra active) w → (q : Option ExaminedValue) × IsExaminedOf t q × IsInterOf (inter_inputs t q intra active) w
  inter_alike None none w is = (
    None,
    λ a examined. let b = examined_alike t s (looks_back s t looks) (border_alike s t looks) a examined in none b.0 b.1,
    subst (λ (r : ℕ). IsInterOf (record { root = r; examined = None; intra = intra; active = active }) w) router_alike is,
  )
  inter_alike (Some x) there w is =
      let e : Database = lsas_in (database_of t (scope.Area x.area)) in
      let y : ExaminedValue = record { area = x.area; lsas = e } in
      let a = examined_alike s t looks (border_alike t s (looks_back s t looks)) there.0.0 there.0.1 in
      let alike : (key : Key) → body_at e key ≡ body_at x.lsas key = λ key. bodies_alike s t looks (scope.Area x.area) key ∙ sym (ap (λ (d : Database). body_at d key) there.1) in (
        Some y,
        ((a.0, a.1, a.2 ∙ there.0.2), refl),
        subst (λ (r : ℕ). IsInterOf (record { root = r; examined = Some y; intra = intra; active = active }) w) router_alike (summaries_alike x.lsas e alike s.config.router intra active x.area w is),
      )

  pub external_alike : (inter : InterValue) (w : ExternalValue) → IsExternalOf (external_inputs s intra active inter) w → IsExternalOf (external_inputs t intra active inter) w
  external_alike inter w is =
      let d : Database = lsas_in (database_of s scope.As) in
      let e : Database = lsas_in (database_of t scope.As) in
      subst (λ (c : Config). IsExternalOf (record { root = c.router; compat = c.compat; areas = map (λ (a : AreaConfig). a.id) c.areas; lsas = e; intra = intra; active = active; inter = inter }) w) looks.config
      (externals_alike d e (bodies_alike s t looks scope.As) s.config.router intra active s.config.compat (map (λ (a : AreaConfig). a.id) s.config.areas) inter w is)
