use Rattle.std.proofs.Common.{◌≡◌, map, take, None}
use Rattle.std.specs.List.{All}
use Rattle.area_drawings.specs.Places.{IsInColumn, IsStandChain}
use Rattle.area_drawings.proofs.stands.place_all.Given as goal

abbrev pub invariant-loop-reached : goal.invariant-loop-reached
invariant-loop-reached l =
    (map (λ s. s.reached) l.stands.items ≡ take l.reached-index l.ordered) × All (IsInColumn l.columns) l.stands.items × IsStandChain None l.stands.items l.last
