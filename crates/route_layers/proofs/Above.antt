-- The inputs of the layers above intra-area routes: that the definitions speak of them,
-- and what differs in them.
--   configured: the areas of the definitions are those that are configured
--   apart_areas: no two of them have one Area ID
--   inter_are, external_are: what inter-area and external routes are calculated from is what the
--     definitions speak of
--   inter_made, external_made: inputs of the same root, setting, areas and LSAs are the same
--   examined_there: the examined area has a database
--   kept_ids: what is kept of the areas has their Area IDs
--   inter_differ, external_differ: it differs in no more than is named
use Rattle.std.proofs.Common.{◌≡◌, ◌≢◌, ◌<◌, ℕ, true, List, [], ◌∷◌, map, Option, Some, None, refl, sym, ap, subst, ◌∙◌, arith}
use Rattle.std.specs.Prelude.{◌↔◌, Bool, IsSome}
use Rattle.std.specs.List.{Contains, AllPairs}
use Rattle.std.specs.FinMap.{get, values}
use Rattle.std.proofs.lemmas.List.{get_or-map, length-map}
use Rattle.ospf_types.specs.declared.config.AreaConfig.{AreaConfig}
use Rattle.ospf_types.specs.declared.key.Dest.{Dest}
use Rattle.ospf_types.specs.declared.key.Dest.TheVariants.{Net, Router}
use Rattle.ospf_types.specs.declared.key.Key.{Key}
use Rattle.ospf_types.specs.declared.key.Scope.{Scope}
use Rattle.ospf_types.specs.declared.key.Scope.TheVariants as scope
use Rattle.ospf_types.specs.declared.prefix.Prefix.{Prefix}
use Rattle.ospf_types.specs.Inputs.{Area}
use Rattle.ospf_types.specs.Ranges.{IsExamined}
use Rattle.ospf_types.proofs.RangeChanges.{areas_kept, compat_kept, ids_kept}
use Rattle.lsdb.specs.Databases.{Database}
use Rattle.lsdb.specs.Contents.{IsDatabaseSound, body_at}
use Rattle.area_trees.specs.Areas.{AreaTreeValue}
use Rattle.intra.specs.Intras.{AreaIntraValue, IntraValue, AreAreaIntras, reached_at}
use Rattle.intra.specs.Right.{IsRightFor}
use Rattle.active_ranges.specs.Active.{ActiveValue, IsActiveIn}
use Rattle.active_ranges.specs.Right.{AreConfigured, IsRightFor as AreRangesRight}
use Rattle.inter.specs.Changes.{InputsDifferAmong as InterInputsDiffer}
use Rattle.inter.specs.Inputs.{ExaminedValue}
use Rattle.inter.specs.Inters.{InterValue}
use Rattle.inter.specs.Right.{AreInputsOf as InterInputsOf, IsExaminedFor, IsRightFor as IsInterRight}
use Rattle.external.specs.Changes.{InputsDifferAmong as ExternalInputsDiffer}
use Rattle.external.specs.Right.{AreInputsOf as ExternalInputsOf}
use Rattle.event_state.specs.Held.{AreFit}
use Rattle.event_state.specs.States.{State, AreAreasApart, place_of, database_of, inputs_of}
use Rattle.event_state.proofs.Places.{no_area}
use Rattle.route_layers.specs.Trees.{lsas_in, areas_with, AreTreesOf, StatesDifferAmong}
use Rattle.route_layers.specs.Layers.{IsExaminedOf, inter_inputs, external_inputs}
use Rattle.route_layers.specs.Works.{area_of}
use Rattle.route_layers.proofs.Examining.{area_from}
use Rattle.route_layers.proofs.Follows.{router_kept, bodies_differ}
use Rattle.route_layers.proofs.InputsAre.{lsas_same}
use Rattle.route_layers.proofs.Places.{area_there, fit_lsas}

-- ---- the definitions speak of it

pub configured : (s : State) (areas : List AreaConfig) → AreConfigured (map (area_of s) areas) areas
configured s [] = tt
configured s (a ∷ areas) = (refl, refl, configured s areas)

ids_of : (s : State) (areas : List AreaConfig) → map (λ (a : AreaConfig). a.id) areas ≡ map (λ (a : Area). a.id) (map (area_of s) areas)
ids_of s [] = refl
ids_of s (a ∷ areas) = ap (λ (ids : List ℕ). a.id ∷ ids) (ids_of s areas)

pub apart_areas : (s : State) (areas : List AreaConfig) → AreAreasApart areas → AllPairs (λ (a b : Area). a.id ≢ b.id) (map (area_of s) areas)
apart_areas s areas apart i j d lt within same =
    let below = subst (λ (n : ℕ). j < n) (length-map areas (area_of s)) within in
    let first = ap (λ (a : Area). a.id) (get_or-map (area_of s) areas i no_area d (omega (arith, lt, below))) in
    let second = ap (λ (a : Area). a.id) (get_or-map (area_of s) areas j no_area d below) in
    apart i j no_area lt below (sym first ∙ same ∙ second)

module _ (s : State) (fit : AreFit s.config.areas s.databases) where
  examined_for : (examined : Option ExaminedValue) → IsExaminedOf s examined → IsExaminedFor (inputs_of s) examined
  examined_for None is = is
  examined_for (Some x) is =
      let a = is.0.0 in
      let b = area_from s a is.0.1.area in
      let id : b.0.id ≡ x.area = ap (λ (z : Area). z.id) b.2 ∙ is.0.2 in
      let there : lsas_in (database_of s (scope.Area b.0.id)) ≡ x.lsas = ap (λ (n : ℕ). lsas_in (database_of s (scope.Area n))) id ∙ sym is.1 in (
        a,
        record {
          examined = is.0.1;
          id = is.0.2;
          lsas = sym (ap (λ (z : Area). z.lsas) b.2) ∙ lsas_same (database_of s (scope.Area b.0.id)) ∙ ap (λ (d : Database). values d) there;
          sound = subst IsDatabaseSound there (fit_lsas s fit (scope.Area b.0.id)).sound;
        },
      )

  module _ (intra : IntraValue) (active : ActiveValue) (routed : IsRightFor (inputs_of s) intra) (ranged : AreRangesRight (inputs_of s) active) where
    pub inter_are : (examined : Option ExaminedValue) → IsExaminedOf s examined → InterInputsOf (inputs_of s) (inter_inputs s examined intra active)
    inter_are examined is = record { router = refl; apart = apart_areas s s.config.areas fit.apart; examined = examined_for examined is; intra = routed; ranges = ranged }

    pub external_are : (inter : InterValue) → IsInterRight (inputs_of s) inter → ExternalInputsOf (inputs_of s) (external_inputs s intra active inter)
    external_are inter between = record {
      router = refl;
      compat = refl;
      areas = ids_of s s.config.areas;
      apart = apart_areas s s.config.areas fit.apart;
      lsas = lsas_same (database_of s scope.As);
      sound = (fit_lsas s fit scope.As).sound;
      intra = routed;
      ranges = ranged;
      inter = between;
    }

-- inputs of the same root, setting, areas and LSAs are the same
pub inter_made : (s : State) (examined : Option ExaminedValue) (intra : IntraValue) (active : ActiveValue) (root : ℕ) → root ≡ s.config.router
    → record { root = root; examined = examined; intra = intra; active = active } ≡ inter_inputs s examined intra active
inter_made s examined intra active root same = λ j. record { root = same j; examined = examined; intra = intra; active = active }

pub external_made : (s : State) (intra : IntraValue) (active : ActiveValue) (inter : InterValue) (root : ℕ) (compat : Bool) (areas : List ℕ) (lsas : Database)
    → root ≡ s.config.router → compat ≡ s.config.compat → areas ≡ map (λ (a : AreaConfig). a.id) s.config.areas → lsas ≡ lsas_in (database_of s scope.As)
    → record { root = root; compat = compat; areas = areas; lsas = lsas; intra = intra; active = active; inter = inter } ≡ external_inputs s intra active inter
external_made s intra active inter root compat areas lsas one setting listed held = λ j. record { root = one j; compat = setting j; areas = listed j; lsas = held j; intra = intra; active = active; inter = inter }

-- the examined area has a database
pub examined_there : (s : State) → AreFit s.config.areas s.databases → (id : ℕ) → (a : Area) × IsExamined (inputs_of s) a × (a.id ≡ id) → IsSome (place_of s.config.areas (scope.Area id))
examined_there s fit id w =
    let b = area_from s w.0 w.1.area in
    let same : b.0.id ≡ id = ap (λ (z : Area). z.id) b.2 ∙ w.2 in
    subst (λ (n : ℕ). IsSome (place_of s.config.areas (scope.Area n))) same (area_there s.config.areas b.1.0 b.0 b.0 b.1.1 (sym b.1.2))

-- what is kept of the areas has their Area IDs
pub kept_ids : (s : State) (root : ℕ) (areas : List AreaConfig) (trees : List AreaTreeValue) (kept : List AreaIntraValue) → AreTreesOf s areas trees → AreAreaIntras root (areas_with s areas trees) kept
    → map (λ (i : AreaIntraValue). i.id) kept ≡ map (λ (a : AreaConfig). a.id) areas
kept_ids s root [] [] [] trees is = refl
kept_ids s root [] [] (i ∷ kept) trees is = absurd is
kept_ids s root [] (t ∷ more) kept trees is = absurd trees
kept_ids s root (a ∷ areas) [] kept trees is = absurd trees
kept_ids s root (a ∷ areas) (t ∷ more) [] trees is = absurd is
kept_ids s root (a ∷ areas) (t ∷ more) (i ∷ kept) trees is = λ k. is.0.id k ∷ kept_ids s root areas more kept trees.1 is.1 k

-- ---- what differs in it

module _ (s t : State) (keys : List (Scope × Key)) (ids : List ℕ) (differ : StatesDifferAmong keys ids true s t) (dests : List Dest) (old new : IntraValue) (active ranges : ActiveValue)
    (networks : (p : Prefix) → (Contains dests (Net p) → ⊥) → get new.entries p ≡ get old.entries p) (same : (p : Prefix) → (Contains dests (Net p) → ⊥) → IsActiveIn ranges p ↔ IsActiveIn active p)
    (routers : (r : ℕ) → (Contains dests (Router r) → ⊥) → (area : ℕ) → reached_at new.areas area r ≡ reached_at old.areas area r) where
  examined_differ : (before after : Option ExaminedValue) → IsExaminedOf s before → IsExaminedOf t after → (x y : ExaminedValue) → before ≡ Some x → after ≡ Some y → y.area ≡ x.area
      → (key : Key) → (Contains keys (scope.Area x.area, key) → ⊥) → body_at y.lsas key ≡ body_at x.lsas key
  examined_differ before after was is x y first second area key not =
      let old_is = subst (IsExaminedOf s) first was in
      let new_is = subst (IsExaminedOf t) second is in
      ap (λ (d : Database). body_at d key) (new_is.1 ∙ ap (λ (n : ℕ). lsas_in (database_of t (scope.Area n))) area)
      ∙ bodies_differ s t keys ids differ (scope.Area x.area) key not
      ∙ sym (ap (λ (d : Database). body_at d key) old_is.1)

  pub inter_differ : (before after : Option ExaminedValue) → IsExaminedOf s before → IsExaminedOf t after → InterInputsDiffer keys dests (inter_inputs s before old active) (inter_inputs t after new ranges)
  inter_differ before after was is = record {
    root = router_kept s t keys ids differ;
    lsas = examined_differ before after was is;
    entries = networks;
    ranges = same;
    routers = routers;
  }

  pub external_differ : (inter between : InterValue) → ((d : Dest) → (Contains dests d → ⊥) → get between.entries d ≡ get inter.entries d) → ExternalInputsDiffer keys dests (external_inputs s old active inter) (external_inputs t new ranges between)
  external_differ inter between others = record {
    root = router_kept s t keys ids differ;
    compat = compat_kept t.config s.config differ.areas;
    areas = ids_kept t.config.areas s.config.areas (areas_kept t.config s.config differ.areas);
    lsas = λ key not. bodies_differ s t keys ids differ scope.As key not;
    intra = networks;
    ranges = same;
    inter = others;
    routers = routers;
  }
