use Rattle.std.proofs.Common.{◌≡◌, ◌++◌, eqb, map, drop}
use Rattle.std.specs.List.{dedup}
use Rattle.graph_links.specs.declared.link_end.LinkEnd.{LinkEnd}
use Rattle.graph_links.proofs.Details.{rest_of}
use Rattle.graph_links.proofs.vertex_pair.each_once.Given as goal

abbrev pub invariant-loop-end : goal.invariant-loop-end
invariant-loop-end l = l.details ++ rest_of l.last (map (λ (e : LinkEnd). e.detail) (drop l.end-index l.ends)) ≡ dedup eqb (map (λ (e : LinkEnd). e.detail) l.ends)
