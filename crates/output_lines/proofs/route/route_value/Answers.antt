use Rattle.std.proofs.Common.{ap, ◌∙◌}
use Rattle.serde_json.specs.Written.{has_float}
use Rattle.output_lines.proofs.Floats.{has_float-paths_data}
use Rattle.output_lines.proofs.route.route_value.Goals as goal

pub put-requires : goal.put-requires
put-requires c = ap has_float c.in_ok-paths_value.ensures ∙ has_float-paths_data c.as_slice.result.now
