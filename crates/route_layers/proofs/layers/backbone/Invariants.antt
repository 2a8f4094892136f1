use Rattle.std.proofs.Common.{take}
use Rattle.std.specs.Prelude.{◌≢◌, Contains}
use Rattle.ospf_types.specs.declared.config.AreaConfig.{AreaConfig}
use Rattle.route_layers.proofs.layers.backbone.Given as goal

abbrev pub invariant-loop-area : goal.invariant-loop-area
invariant-loop-area l = (a : AreaConfig) → Contains (take l.area-index l.state.config.areas) a → a.id ≢ 0
