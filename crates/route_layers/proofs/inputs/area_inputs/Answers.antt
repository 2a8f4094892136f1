use Rattle.std.proofs.Common.{rules, ℕ, ◌≡◌, get_or, length, sym}
use Rattle.std.specs.FinMap.{empty}
use Rattle.std.specs.Iterator.Adapters.{zip_first, zip_second}
use Rattle.std.specs.Slice.Iter.{iter_rest}
use Rattle.std.proofs.lemmas.Slice.Zip.{zip_turn, either_empty_from_Zip}
use Rattle.ospf_types.specs.declared.config.AreaConfig.{AreaConfig}
use Rattle.ospf_types.specs.declared.key.Scope.TheVariants.{Area}
use Rattle.event_state.specs.States.{place_of}
use Rattle.route_layers.specs.Trees.{areas_with}
use Rattle.route_layers.proofs.Places.{area_there, some_there, none_left}
use Rattle.route_layers.proofs.inputs.area_inputs.Goals as goal

pub unreachable-requires : goal.unreachable-requires
unreachable-requires c =
    let areas = c.args.state.now.config.areas in
    let first : iter_rest (zip_first c.into_iter-area-iterator.result) ≡ areas = search rules in
    let second : iter_rest (zip_second c.into_iter-area-iterator.result) ≡ c.args.trees.now = search rules in
    let turn = zip_turn areas c.args.trees.now c.loop-area.yielded c.into_iter-area-iterator.result c.loop-area.area-iterator c.next.new.self c.next.result first second c.loop-area.yielded_by (c.in-Some.area, c.in-Some.tree) c.in-Some.is c.next.ensures.steps in
    let a : AreaConfig = c.in-Some.area.now in
    let there = area_there areas (length c.loop-area.yielded) a a turn.0 (turn.2 a) in
    some_there (λ (k : ℕ). get_or c.args.state.now.databases k empty) (place_of areas (Area a.id)) there (sym c.in_default.ensures.value)

pub returns : goal.returns
returns c =
    none_left c.args.state.now (iter_rest (zip_first c.loop-area.area-iterator)) (iter_rest (zip_second c.loop-area.area-iterator)) c.loop-area.areas.items (areas_with c.args.state.now c.args.state.now.config.areas c.args.trees.now)
    (either_empty_from_Zip c.loop-area.area-iterator c.next.new.self c.next.result c.in-None.is c.next.ensures.steps) c.loop-area.invariant
