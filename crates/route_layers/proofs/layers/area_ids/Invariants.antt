use Rattle.std.proofs.Common.{◌≡◌, map, take}
use Rattle.ospf_types.specs.declared.config.AreaConfig.{AreaConfig}
use Rattle.route_layers.proofs.layers.area_ids.Given as goal

abbrev pub invariant-loop-area : goal.invariant-loop-area
invariant-loop-area l = l.ids.items ≡ map (λ (a : AreaConfig). a.id) (take l.area-index l.state.config.areas)
