use Rattle.std.proofs.Common.{take}
use Rattle.std.specs.FinMap.{get}
use Rattle.std.specs.List.{All}
use Rattle.spf.specs.Suspects.{Supports}
use Rattle.spf.proofs.lose_support.StillReached.find_support.Given as goal

abbrev pub invariant-loop-place : goal.invariant-loop-place
invariant-loop-place l = All (λ x. Supports (get l.self.distances.now) l.self.lost.now l.distance x → ⊥) (take l.place l.links)
