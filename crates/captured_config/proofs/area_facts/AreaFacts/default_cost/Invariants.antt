use Rattle.std.proofs.Common.{◌≡◌, take}
use Rattle.captured_config.specs.Finding.{default_cost_by}
use Rattle.captured_config.proofs.area_facts.AreaFacts.default_cost.Given as goal

abbrev pub invariant-loop-told : goal.invariant-loop-told
invariant-loop-told l = l.cost ≡ default_cost_by l.self.area (take l.told-index l.self.told.now)
