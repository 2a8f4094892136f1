use Rattle.std.proofs.Common.{◌≢◌, take}
use Rattle.std.specs.Prelude.{◌↔◌, Contains}
use Rattle.std.specs.List.{AllPairs}
use Rattle.area_drawings.specs.declared.drawing.DrawnLink.{DrawnLink}
use Rattle.spf.specs.HandedOn.{IsOfSome}
use Rattle.area_drawings.specs.Links.{IsDrawnOf}
use Rattle.area_drawings.proofs.links.links_out.Given as goal

-- the drawn links so far belong to the links so far, without duplicates
abbrev pub invariant-loop-link : goal.invariant-loop-link
invariant-loop-link l =
    ((k : DrawnLink) → Contains l.links.items k ↔ IsOfSome (take l.link-index l.link-items) (IsDrawnOf l.stands l.from) k) × AllPairs (λ j k. j ≢ k) l.links.items
