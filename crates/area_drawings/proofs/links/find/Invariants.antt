use Rattle.std.proofs.Common.{◌≢◌, take}
use Rattle.std.specs.List.{All}
use Rattle.area_drawings.proofs.links.find.Given as goal

-- none of those before is the vertex
abbrev pub invariant-loop-stand : goal.invariant-loop-stand
invariant-loop-stand l = All (λ s. s.reached.vertex ≢ l.vertex) (take l.stand-index l.stands)
