use Rattle.std.proofs.Common.{ℕ, List, refl, length, ap, sym, subst, ◌∙◌}
use Rattle.area_trees.specs.Areas.{AreaTreeValue}
use Rattle.route_layers.specs.Layers.{AreActive}
use Rattle.route_layers.specs.Trees.{areas_with}
use Rattle.explanation.proofs.Areas.{are_areas, as_many}
use Rattle.explanation.proofs.explained.explain_by.Goals as goal

pub area_inputs-requires : goal.area_inputs-requires
area_inputs-requires c =
    let s = c.args.found.state.now in
    ap (λ (trees : List AreaTreeValue). length trees) c.trees.ensures ∙ as_many s s.config.areas c.args.found.calculation.now.trees c.requires.trees

pub explain-requires : goal.explain-requires
explain-requires c =
    let s = c.args.found.state.now in
    are_areas s c.args.found.calculation.now c.deref.result.now (record {
      right = c.requires;
      areas_are = c.deref.ensures.value ∙ c.in_ok-areas.ensures ∙ ap (λ (trees : List AreaTreeValue). areas_with s s.config.areas trees) c.trees.ensures;
    })

pub returns : goal.returns
returns c =
    let s = c.args.found.state.now in record {
      layers = record { state = c.args.found.state; calculation = c.args.found.calculation; areas = c.deref.result; active = c.as_slice.result };
      state = refl;
      right = record {
        right = c.requires;
        areas_are = c.deref.ensures.value ∙ c.in_ok-areas.ensures ∙ ap (λ (trees : List AreaTreeValue). areas_with s s.config.areas trees) c.trees.ensures;
      };
      active = subst (λ (active : List ℕ). AreActive s active) (sym c.as_slice.ensures) c.in_ok-active.ensures;
      candidates_are = c.in_ok-candidates.ensures.right;
      in_order = c.in_ok-candidates.ensures.in_order;
    }
