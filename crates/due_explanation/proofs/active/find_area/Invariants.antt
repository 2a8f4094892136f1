use Rattle.std.proofs.Common.{◌≡◌, drop}
use Rattle.due_explanation.specs.Reasons.{area_with}
use Rattle.due_explanation.proofs.active.find_area.Given as goal

abbrev pub invariant-loop-area : goal.invariant-loop-area
invariant-loop-area l = area_with (drop l.area-index l.areas) l.id ≡ area_with l.areas l.id
