use Rattle.std.proofs.Common.{◌≡◌, ◌++◌, string_bytes, take}
use Rattle.std.specs.List.{flat_map}
use Rattle.area_drawings.specs.DrawnLinks.{link_on_tree}
use Rattle.area_drawings.proofs.drawn_links.put_tree.Given as goal

abbrev pub invariant-loop-link : goal.invariant-loop-link
invariant-loop-link l = string_bytes l.text ≡ string_bytes l.initial.text ++ flat_map link_on_tree (take l.link-index l.links)
