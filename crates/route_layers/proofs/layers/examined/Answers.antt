use Rattle.std.proofs.Common.{ℕ, get_or, sym}
use Rattle.std.specs.FinMap.{empty}
use Rattle.ospf_types.specs.declared.key.Scope.TheVariants.{Area}
use Rattle.event_state.specs.States.{place_of}
use Rattle.route_layers.proofs.Above.{examined_there}
use Rattle.route_layers.proofs.Places.{some_there}
use Rattle.route_layers.proofs.layers.examined.Goals as goal

pub unreachable-requires : goal.unreachable-requires
unreachable-requires c =
    let s = c.args.state.now in
    let there = examined_there s c.requires c.in_ok-area.area c.in_ok-area.ensures.some in
    some_there (λ (k : ℕ). get_or s.databases k empty) (place_of s.config.areas (Area c.in_ok-area.area)) there (sym c.in_default.ensures.value)
