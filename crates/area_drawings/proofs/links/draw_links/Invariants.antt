use Rattle.std.proofs.Common.{◌≢◌, take}
use Rattle.std.specs.Prelude.{◌↔◌, Contains}
use Rattle.std.specs.List.{AllPairs}
use Rattle.area_drawings.specs.declared.drawing.DrawnLink.{DrawnLink}
use Rattle.spf.specs.HandedOn.{IsOfSome}
use Rattle.area_drawings.specs.Links.{IsLinkOut}
use Rattle.area_drawings.proofs.links.draw_links.Given as goal

-- the links so far are those out of the vertices so far, without duplicates
abbrev pub invariant-loop-from : goal.invariant-loop-from
invariant-loop-from l =
    ((k : DrawnLink) → Contains l.links.items k ↔ IsOfSome (take l.from-index l.stands) (IsLinkOut l.tree.area.graph l.stands) k) × AllPairs (λ j k. j ≢ k) l.links.items
