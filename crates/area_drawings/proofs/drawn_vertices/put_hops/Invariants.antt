use Rattle.std.proofs.Common.{◌≡◌, ◌∷◌, ◌++◌, get_or, string_bytes, take}
use Rattle.ospf_types.specs.declared.hop.NextHop.TheVariants.{Direct}
use Rattle.area_drawings.specs.Vertices.{hops_text}
use Rattle.area_drawings.proofs.drawn_vertices.put_hops.Given as goal

abbrev pub invariant-loop-hop : goal.invariant-loop-hop
invariant-loop-hop l = string_bytes l.text ≡ string_bytes l.fn.text ++ hops_text (get_or l.hops 0 (Direct 0) ∷ take l.hop-index l.rest)
