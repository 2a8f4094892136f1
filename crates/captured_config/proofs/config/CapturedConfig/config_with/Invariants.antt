use Rattle.std.proofs.Common.{◌≡◌, take, map}
use Rattle.captured_config.specs.Finding.{area_by}
use Rattle.captured_config.proofs.config.CapturedConfig.config_with.Given as goal

abbrev pub invariant-loop-id : goal.invariant-loop-id
invariant-loop-id l = l.areas ≡ map (area_by l.self.lists.told) (take l.id-index l.ids)
