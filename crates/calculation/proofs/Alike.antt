-- States that look alike have the same trees and routes: what is kept of the one is right for the
-- other.
use Rattle.std.proofs.Common.{◌≡◌, ℕ, List, [], ◌∷◌, Some, refl, sym, ap, subst, ◌∙◌, ⊎_elim, inl, inr}
use Rattle.std.specs.List.{Contains}
use Rattle.std.specs.Ordering.{nat_cmp}
use Rattle.std.specs.FinMap.{FinMap, entries, get}
use Rattle.ospf_types.specs.declared.config.AreaConfig.{AreaConfig}
use Rattle.ospf_types.specs.declared.config.Config.{Config}
use Rattle.ospf_types.specs.declared.config.Interface.{Interface}
use Rattle.ospf_types.specs.declared.entry.Vertex.{Vertex}
use Rattle.ospf_types.specs.declared.entry.Vertex.TheVariants.{Router}
use Rattle.ospf_types.specs.declared.key.Key.{Key}
use Rattle.ospf_types.specs.declared.key.Scope.TheVariants.{Area}
use Rattle.ospf_types.specs.declared.hop.Path.{Path}
use Rattle.ospf_types.specs.declared.prefix.Prefix.{Prefix}
use Rattle.ospf_types.specs.Intra.{AreaCost}
use Rattle.ospf_types.proofs.Elements.{no_element, first_element, later_element, first_or_later}
use Rattle.lsdb.specs.Databases.{Database}
use Rattle.area_trees.specs.Areas.{AreaTreeValue, IsAreaTree, body_at}
use Rattle.intra.specs.Indexes.{IndexValue, IsAreaIndexOf}
use Rattle.intra.specs.Inputs.{AreaValue, InputsValue}
use Rattle.intra.specs.Intras.{AreaIntraValue, IntraValue, IsAreaIntra, AreAreaIntras, IsIntraOf}
use Rattle.intra.specs.Offers.{HasOffer, IsNearest, AreaOffers, KeyedOffers, OffersOf}
use Rattle.intra.proofs.Frame.{entry_same, offers_same}
use Rattle.intra.proofs.Right.{intra_right}
use Rattle.active_ranges.specs.Active.{AreRangesOf}
use Rattle.active_ranges.proofs.Right.{ranges_right}
use Rattle.inter.proofs.Right.{inter_right}
use Rattle.external.proofs.Right.{external_right}
use Rattle.event_state.specs.States.{State, LooksAlike, database_of, inputs_of}
use Rattle.event_state.specs.Held.{AreFit}
use Rattle.calculation.specs.Calculations.{CalculationValue, IsCalculationOf}
use Rattle.route_layers.specs.Trees.{lsas_in, areas_with, inputs_with, AreUpsOf, IsTreeFor, AreTreesOf}
use Rattle.route_layers.specs.Layers.{inter_inputs, external_inputs}
use Rattle.route_layers.proofs.Above.{configured, inter_are, external_are}
use Rattle.calculation.proofs.AlikeAbove.{looks_back, bodies_alike, inter_alike, external_alike}
use Rattle.route_layers.proofs.InputsAre.{inputs_are}
use Rattle.route_layers.proofs.Standing.{standing_alike, alike_tree}

-- ---- an area with another database that is used alike

module _ (d e : Database) (alike : (key : Key) → body_at e key ≡ body_at d key) where
  index_alike : (i : IndexValue) → IsAreaIndexOf d i → IsAreaIndexOf e i
  index_alike i is = record { index = is.index; offered = λ v. let at = is.offered v in (at.0, standing_alike d e alike v at.0 at.1, at.2) }

  kept_alike : (root id : ℕ) (t : AreaTreeValue) (i : AreaIntraValue) → IsAreaIntra root (record { id = id; lsas = d; tree = t }) i → IsAreaIntra root (record { id = id; lsas = e; tree = t }) i
  kept_alike root id t i is = record {
    id = is.id;
    index = index_alike i.index is.index;
    reached = λ router. let at = is.reached router in (at.0, standing_alike d e alike (Router router) at.0 at.1, at.2);
  }

  offer_alike : (v : Vertex) (p : Prefix) (metric : ℕ) → HasOffer d v p metric → HasOffer e v p metric
  offer_alike v p metric has = (has.0, standing_alike d e alike v (Some has.0) has.1, has.2)

module _ (d e : Database) (alike : (key : Key) → body_at e key ≡ body_at d key) (root other : ℕ) (same : other ≡ root) (interfaces others : List (ℕ × Interface)) (one : others ≡ interfaces) where
  nearest_alike : (id : ℕ) (t : AreaTreeValue) (p : Prefix) (n cost : ℕ) → IsNearest (HasOffer e) (record { id = id; lsas = d; tree = t }) p n cost → IsNearest (HasOffer e) (record { id = id; lsas = e; tree = t }) p n cost
  nearest_alike id t p n cost is = record { reached = is.reached; nearest = is.nearest; greatest = is.greatest }

  of_area : (id : ℕ) (t : AreaTreeValue) (v : InputsValue) (p : Prefix) (cost : ℕ) (path : Path)
      → AreaOffers (HasOffer e) v (record { id = id; lsas = d; tree = t }) p cost path → AreaOffers (HasOffer e) v (record { id = id; lsas = e; tree = t }) p cost path
  of_area id t v p cost path (inl transit) = inl (transit.0, transit.1, nearest_alike id t p transit.0 cost transit.2, transit.3, transit.4)
  of_area id t v p cost path (inr rest) = inr rest

  -- offers over the one database are offers over the other
  offered_alike : (id : ℕ) (t : AreaTreeValue) (p : Prefix) (cost : ℕ) (path : Path)
      → AreaOffers (HasOffer d) (record { root = root; areas = []; interfaces = interfaces }) (record { id = id; lsas = d; tree = t }) p cost path
      → AreaOffers (HasOffer e) (record { root = other; areas = []; interfaces = others }) (record { id = id; lsas = e; tree = t }) p cost path
  offered_alike id t p cost path offers =
      let a : AreaValue = record { id = id; lsas = d; tree = t } in
      let b : AreaValue = record { id = id; lsas = e; tree = t } in
      let v : InputsValue = record { root = root; areas = []; interfaces = interfaces } in
      let moved = (offers_same (HasOffer d) (HasOffer e) v a p (λ w metric. (offer_alike d e alike w p metric, offer_alike e d (λ key. sym (alike key)) w p metric)) cost path).0 offers in
      subst (λ (r : ℕ). AreaOffers (HasOffer e) (record { root = r; areas = []; interfaces = others }) b p cost path) (sym same)
      (subst (λ (list : List (ℕ × Interface)). AreaOffers (HasOffer e) (record { root = root; areas = []; interfaces = list }) b p cost path) (sym one) (of_area id t v p cost path moved))

-- ---- states that look alike

module _ (s t : State) (looks : LooksAlike s t) (router : t.config.router ≡ s.config.router) where
  body_alike : (id : ℕ) (key : Key) → body_at (lsas_in (database_of t (Area id))) key ≡ body_at (lsas_in (database_of s (Area id))) key
  body_alike id = bodies_alike s t looks (Area id)

  tree_alike : (area : ℕ) (x : AreaTreeValue) → IsTreeFor s area x → IsTreeFor t area x
  tree_alike area x is = (
    is.0,
    subst (λ (m : FinMap nat_cmp Interface). AreUpsOf (record t { interfaces = m }) area is.0) looks.interfaces is.1,
    subst (λ (r : ℕ). IsAreaTree r (lsas_in (database_of t (Area area))) is.0 x) (sym router) (alike_tree (lsas_in (database_of s (Area area))) (lsas_in (database_of t (Area area))) (body_alike area) s.config.router is.0 x is.2),
  )

  trees_alike : (areas : List AreaConfig) (trees : List AreaTreeValue) → AreTreesOf s areas trees → AreTreesOf t areas trees
  trees_alike [] [] are = tt
  trees_alike (a ∷ areas) (x ∷ trees) are = (tree_alike a.id x are.0, trees_alike areas trees are.1)
  trees_alike [] (x ∷ trees) are = absurd are
  trees_alike (a ∷ areas) [] are = absurd are

  intras_alike : (root : ℕ) (areas : List AreaConfig) (trees : List AreaTreeValue) (kept : List AreaIntraValue) → AreAreaIntras root (areas_with s areas trees) kept → AreAreaIntras root (areas_with t areas trees) kept
  intras_alike root (a ∷ areas) (x ∷ trees) (i ∷ is) are = (kept_alike (lsas_in (database_of s (Area a.id))) (lsas_in (database_of t (Area a.id))) (body_alike a.id) root a.id x i are.0, intras_alike root areas trees is are.1)
  intras_alike root (a ∷ areas) (x ∷ trees) [] are = absurd are
  intras_alike root (a ∷ areas) [] kept are = are
  intras_alike root [] trees kept are = are

  all_offers_alike : (v w : InputsValue) → v.root ≡ s.config.router → w.root ≡ t.config.router → v.interfaces ≡ entries s.interfaces → w.interfaces ≡ entries t.interfaces
      → (areas : List AreaConfig) (trees : List AreaTreeValue) (p : Prefix) (key : AreaCost) (path : Path) (a : AreaValue) → Contains (areas_with s areas trees) a → KeyedOffers (HasOffer a.lsas) v a p key path
      → (b : AreaValue) × Contains (areas_with t areas trees) b × KeyedOffers (HasOffer b.lsas) w b p key path
  all_offers_alike v w v_root w_root v_interfaces w_interfaces [] trees p key path a c offers = absurd (no_element a c)
  all_offers_alike v w v_root w_root v_interfaces w_interfaces (x ∷ areas) [] p key path a c offers = absurd (no_element a c)
  all_offers_alike v w v_root w_root v_interfaces w_interfaces (x ∷ areas) (y ∷ trees) p key path a c offers =
      let first : AreaValue = record { id = x.id; lsas = lsas_in (database_of s (Area x.id)); tree = y } in
      let other : AreaValue = record { id = x.id; lsas = lsas_in (database_of t (Area x.id)); tree = y } in
      ⊎_elim
      (λ (e : a ≡ first).
      let here : KeyedOffers (HasOffer first.lsas) v first p key path = subst (λ (z : AreaValue). KeyedOffers (HasOffer z.lsas) v z p key path) e offers in (
        other,
        first_element other (areas_with t areas trees),
        (here.0, offered_alike first.lsas other.lsas (body_alike x.id) v.root w.root (w_root ∙ router ∙ sym v_root) v.interfaces w.interfaces (w_interfaces ∙ sym (ap entries looks.interfaces) ∙ sym v_interfaces) x.id y p key.0 path here.1),
      ))
      (λ (later : Contains (areas_with s areas trees) a).
      let found = all_offers_alike v w v_root w_root v_interfaces w_interfaces areas trees p key path a later offers in
      (found.0, later_element other found.0 (areas_with t areas trees) found.1, found.2))
      (first_or_later first a (areas_with s areas trees) c)

module _ (s t : State) (looks : LooksAlike s t) where
  areas_same : t.config.areas ≡ s.config.areas
  areas_same = ap (λ (c : Config). c.areas) (sym looks.config)

  router_same : t.config.router ≡ s.config.router
  router_same = ap (λ (c : Config). c.router) (sym looks.config)

  abbrev over : List AreaTreeValue → List AreaConfig → InputsValue
  over trees areas = record { root = t.config.router; areas = areas_with t areas trees; interfaces = entries t.interfaces }

  -- the routes of the one belong to the other
  intra_alike : (trees : List AreaTreeValue) (w : IntraValue) → IsIntraOf (inputs_with s trees) w → IsIntraOf (inputs_with t trees) w
  intra_alike trees w is =
      subst (λ (areas : List AreaConfig). IsIntraOf (over trees areas) w) (sym areas_same) (record {
        fresh = is.fresh;
        areas = subst (λ (r : ℕ). AreAreaIntras r (areas_with t s.config.areas trees) w.areas) (sym router_same) (intras_alike s t looks router_same s.config.router s.config.areas trees w.areas is.areas);
        entries = λ p. entry_same (OffersOf (inputs_with s trees) p) (OffersOf (over trees s.config.areas) p) (λ key path. (
          λ offers. all_offers_alike s t looks router_same (inputs_with s trees) (over trees s.config.areas) refl refl refl refl s.config.areas trees p key path offers.0 offers.1 offers.2,
          λ offers. all_offers_alike t s (looks_back s t looks) (sym router_same) (over trees s.config.areas) (inputs_with s trees) refl refl refl refl s.config.areas trees p key path offers.0 offers.1 offers.2,
        )) (get w.entries p) (is.entries p);
      })

  -- what is kept of the one is right for the other
  kept_right : (c : CalculationValue) → AreFit t.config.areas t.databases → IsCalculationOf s c → IsCalculationOf t c
  kept_right c fit is =
      let trees = subst (λ (areas : List AreaConfig). AreTreesOf t areas c.trees) (sym areas_same) (trees_alike s t looks router_same s.config.areas c.trees is.trees) in
      let intra = intra_alike c.trees c.intra is.intra in
      let routed = intra_right (inputs_of t) (inputs_with t c.trees) c.intra (inputs_are t c.trees fit trees) intra in
      let active : AreRangesOf t.config.areas c.intra.entries c.active = subst (λ (areas : List AreaConfig). AreRangesOf areas c.intra.entries c.active) (sym areas_same) is.active in
      let ranged = ranges_right (inputs_of t) t.config.areas c.intra.entries c.active (configured t t.config.areas) routed.entries active in
      let examined = inter_alike s t looks c.intra c.active is.examined is.examined_is c.inter is.inter in
      let between = inter_right (inputs_of t) (inter_inputs t examined.0 c.intra c.active) (inter_are t fit c.intra c.active routed ranged examined.0 examined.1) c.inter examined.2 in
      let external = external_alike s t looks c.intra c.active c.inter c.external is.external in
      record {
        fit = fit;
        trees = trees;
        intra = intra;
        routed = routed;
        active = active;
        ranged = ranged;
        examined = examined.0;
        examined_is = examined.1;
        inter = examined.2;
        between = between;
        external = external;
        outside = external_right (inputs_of t) (external_inputs t c.intra c.active c.inter) c.external external (external_are t fit c.intra c.active routed ranged c.inter between);
      }

-- an event that changed nothing that is used leaves right what is kept
pub calculation_alike : (s t : State) (c : CalculationValue) → LooksAlike s t → AreFit t.config.areas t.databases → IsCalculationOf s c → IsCalculationOf t c
calculation_alike s t c looks fit is = kept_right s t looks c fit is
