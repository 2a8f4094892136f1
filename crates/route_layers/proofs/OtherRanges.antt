-- What rests on Area IDs stays where the ranges of areas differ.
--   trees_kept: trees of the areas
--   inputs_kept: the areas with their databases and trees
--   long_kept: there are as many areas
--   apart_kept: no two have one Area ID
--   any_ranges: what differs where ranges do not, differs where they may
use Rattle.std.proofs.Common.{◌≡◌, ℕ, ◌<◌, Bool, true, List, [], ◌∷◌, length, get_or, refl, sym, ap, subst, ◌∙◌, arith}
use Rattle.std.proofs.lemmas.List.{get_or-map, length-map}
use Rattle.ospf_types.specs.declared.config.AreaConfig.{AreaConfig}
use Rattle.ospf_types.specs.declared.key.Key.{Key}
use Rattle.ospf_types.specs.declared.key.Scope.{Scope}
use Rattle.ospf_types.specs.declared.key.Scope.TheVariants.{Area}
use Rattle.ospf_types.specs.RangeChanges.{with_others, areas_without_ranges}
use Rattle.ospf_types.proofs.RangeChanges.{ids_kept}
use Rattle.area_trees.specs.Areas.{AreaTreeValue}
use Rattle.intra.specs.Inputs.{AreaValue}
use Rattle.event_state.specs.States.{State, AreAreasApart, database_of}
use Rattle.route_layers.specs.Trees.{lsas_in, areas_with, IsTreeFor, AreTreesOf, StatesDifferAmong}

module _ (s : State) where
  pub trees_kept : (xs ys : List AreaConfig) → areas_without_ranges xs ≡ areas_without_ranges ys → (trees : List AreaTreeValue) → AreTreesOf s xs trees → AreTreesOf s ys trees
  trees_kept [] [] same trees are = are
  trees_kept [] (y ∷ ys) same trees are = absurd cc
  trees_kept (x ∷ xs) [] same trees are = absurd cc
  trees_kept (x ∷ xs) (y ∷ ys) same [] are = absurd are
  trees_kept (x ∷ xs) (y ∷ ys) same (t ∷ trees) are =
      let here : with_others x [] ≡ with_others y [] = cc in
      let rest : areas_without_ranges xs ≡ areas_without_ranges ys = cc in
      (subst (λ (a : AreaConfig). IsTreeFor s a.id t) here are.0, trees_kept xs ys rest trees are.1)

  bare_inputs : (xs : List AreaConfig) (trees : List AreaTreeValue) → areas_with s (areas_without_ranges xs) trees ≡ areas_with s xs trees
  bare_inputs [] trees = refl
  bare_inputs (x ∷ xs) [] = refl
  bare_inputs (x ∷ xs) (t ∷ trees) = ap (λ (rest : List AreaValue). record { id = x.id; lsas = lsas_in (database_of s (Area x.id)); tree = t } ∷ rest) (bare_inputs xs trees)

  pub inputs_kept : (xs ys : List AreaConfig) → areas_without_ranges xs ≡ areas_without_ranges ys → (trees : List AreaTreeValue) → areas_with s xs trees ≡ areas_with s ys trees
  inputs_kept xs ys same trees = sym (bare_inputs xs trees) ∙ ap (λ (areas : List AreaConfig). areas_with s areas trees) same ∙ bare_inputs ys trees

pub long_kept : (xs ys : List AreaConfig) → areas_without_ranges xs ≡ areas_without_ranges ys → length xs ≡ length ys
long_kept xs ys same =
    let bare : AreaConfig → AreaConfig = λ a. with_others a [] in
    sym (length-map xs bare) ∙ ap length same ∙ length-map ys bare

pub apart_kept : (xs ys : List AreaConfig) → areas_without_ranges xs ≡ areas_without_ranges ys → AreAreasApart xs → AreAreasApart ys
apart_kept xs ys same apart i j d lt within equal =
    let id : AreaConfig → ℕ = λ a. a.id in
    let long = long_kept xs ys same in
    let below : j < length xs = omega (arith, within, long) in
    let at : (k : ℕ) → k < length xs → (get_or xs k d).id ≡ (get_or ys k d).id = λ k less.
    sym (get_or-map id xs k d 0 less) ∙ ap (λ (ids : List ℕ). get_or ids k 0) (ids_kept xs ys same) ∙ get_or-map id ys k d 0 (omega (arith, less, long)) in
    apart i j d lt below (at i (omega (arith, lt, below)) ∙ equal ∙ sym (at j below))

pub any_ranges : (s t : State) (keys : List (Scope × Key)) (ids : List ℕ) (ranged : Bool) → StatesDifferAmong keys ids ranged s t → StatesDifferAmong keys ids true s t
any_ranges s t keys ids ranged differ = record { areas = differ.areas; ranges = λ e. absurd cc; usable = differ.usable; interfaces = differ.interfaces; one_kind = differ.one_kind }
