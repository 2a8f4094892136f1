use Rattle.std.proofs.Common.{◌≡◌, map, take}
use Rattle.serde_json.specs.View.{view}
use Rattle.output_lines.specs.Routes.{path_data}
use Rattle.output_lines.proofs.route.paths_value.Given as goal

abbrev pub invariant-loop-path : goal.invariant-loop-path
invariant-loop-path l = map view l.values.items ≡ map path_data (take l.path-index l.paths)
