use Rattle.std.proofs.Common.{take}
use Rattle.explanation.specs.Layers.{LacksArea}
use Rattle.explanation.proofs.layers.Layers.area.Given as goal

-- none of the areas up to here has the Area ID
abbrev pub invariant-loop-area : goal.invariant-loop-area
invariant-loop-area l = LacksArea (take l.area-index l.area-items) l.id
