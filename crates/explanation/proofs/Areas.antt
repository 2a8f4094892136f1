-- The areas of a state with their databases and trees: each tree belongs to its database, and no
-- two have one Area ID.
use Rattle.std.proofs.Common.{◌≡◌, ◌<◌, ℕ, zero, suc, List, [], ◌∷◌, Some, None, length, get_or, refl, sym, ap, subst, ◌∙◌, arith}
use Rattle.std.specs.Prelude.{Contains}
use Rattle.std.proofs.lemmas.List.{get_or_default}
use Rattle.ospf_types.specs.declared.config.AreaConfig.{AreaConfig}
use Rattle.ospf_types.specs.declared.key.Scope.TheVariants.{Area}
use Rattle.area_trees.specs.Areas.{AreaTreeValue}
use Rattle.intra.specs.Inputs.{AreaValue}
use Rattle.event_state.specs.States.{AreAreasApart, State, place_of}
use Rattle.event_state.proofs.Places.{place_at}
use Rattle.route_layers.specs.Trees.{AreTreesOf, areas_with}
use Rattle.route_layers.proofs.InputsAre.{ready_of}
use Rattle.calculation.specs.Calculations.{CalculationValue}
use Rattle.explanation.specs.Layers.{AreAreas, AreLayers}
use Rattle.explanation.proofs.Rivals.{some_same}

abbrev no_area : AreaConfig
no_area = record { id = 0; stub = None; ranges = [] }

-- the area at a place has the Area ID that is configured there
at_place : (s : State) (areas : List AreaConfig) (trees : List AreaTreeValue) → AreTreesOf s areas trees → (k : ℕ) (a : AreaValue) → k < length (areas_with s areas trees) → get_or (areas_with s areas trees) k a ≡ a
    → (k < length areas) × ((get_or areas k no_area).id ≡ a.id)
at_place s [] [] are k a lt here = absurd (omega (arith, lt))
at_place s [] (t ∷ trees) are k a lt here = absurd are
at_place s (x ∷ areas) [] are k a lt here = absurd are
at_place s (x ∷ areas) (t ∷ trees) are zero a lt here = (omega arith, ap (λ (b : AreaValue). b.id) here)
at_place s (x ∷ areas) (t ∷ trees) are (suc k) a lt here =
    let rest = at_place s areas trees are.1 k a (omega (arith, lt)) here in
    (omega (arith, rest.0), rest.1)

-- a tree for each area
pub as_many : (s : State) (areas : List AreaConfig) (trees : List AreaTreeValue) → AreTreesOf s areas trees → length trees ≡ length areas
as_many s [] [] are = refl
as_many s [] (t ∷ trees) are = absurd are
as_many s (x ∷ areas) [] are = absurd are
as_many s (x ∷ areas) (t ∷ trees) are = ap suc (as_many s areas trees are.1)

module _ (s : State) (trees : List AreaTreeValue) (are : AreTreesOf s s.config.areas trees) (apart : AreAreasApart s.config.areas) where
  placed : (k : ℕ) (a : AreaValue) → k < length (areas_with s s.config.areas trees) → get_or (areas_with s s.config.areas trees) k a ≡ a → place_of s.config.areas (Area a.id) ≡ Some k
  placed k a lt here =
      let at = at_place s s.config.areas trees are k a lt here in
      subst (λ (id : ℕ). place_of s.config.areas (Area id) ≡ Some k) at.1 (place_at s.config.areas k no_area apart at.0)

  one_each : (a b : AreaValue) → Contains (areas_with s s.config.areas trees) a → Contains (areas_with s s.config.areas trees) b → a.id ≡ b.id → a ≡ b
  one_each a b first second same =
      let list = areas_with s s.config.areas trees in
      let one = placed first.0 a first.1 first.2 in
      let other = placed second.0 b second.1 second.2 in
      let place : first.0 ≡ second.0 = some_same first.0 second.0 (sym one ∙ ap (λ (id : ℕ). place_of s.config.areas (Area id)) same ∙ other) in
      sym first.2 ∙ get_or_default list first.0 a b first.1 ∙ ap (λ (k : ℕ). get_or list k b) place ∙ second.2

pub are_areas : (s : State) (c : CalculationValue) (areas : List AreaValue) → AreLayers s c areas → AreAreas areas
are_areas s c areas are = subst AreAreas (sym are.areas_are) (record {
  trees = λ a among. let ready = ready_of s c.trees are.right.trees a among in (s.config.router, ready.0, ready.1);
  once = one_each s c.trees are.right.trees are.right.fit.apart;
})
