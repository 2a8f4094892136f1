use Rattle.std.proofs.Common.{◌≡◌, ◌++◌, string_bytes, take}
use Rattle.std.specs.List.{flat_map}
use Rattle.captured_config.specs.Unknown.{area_lines_by}
use Rattle.captured_config.proofs.config.CapturedConfig.put_areas.Given as goal

abbrev pub invariant-loop-id : goal.invariant-loop-id
invariant-loop-id l = string_bytes l.text ≡ string_bytes l.initial.text ++ flat_map (area_lines_by l.self) (take l.id-index l.ids)
