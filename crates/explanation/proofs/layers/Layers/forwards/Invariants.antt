use Rattle.std.proofs.Common.{take}
use Rattle.explanation.specs.Groups.{networks_in}
use Rattle.explanation.specs.Outside.{AreForwards}
use Rattle.explanation.proofs.layers.Layers.forwards.Given as goal

-- the traces to the networks up to here
abbrev pub invariant-loop-group : goal.invariant-loop-group
invariant-loop-group l = AreForwards l.self (networks_in (take l.group-index l.group-items)) l.items.items
