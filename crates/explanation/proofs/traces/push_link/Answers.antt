use Rattle.std.proofs.Common.{subst, None}
use Rattle.ospf_types.specs.declared.entry.Vertex.{Vertex}
use Rattle.area_trees.specs.Areas.{IsStanding}
use Rattle.explanation.proofs.Tails.{tail_stands}
use Rattle.explanation.proofs.traces.push_link.Goals as goal

pub unreachable-requires : goal.unreachable-requires
unreachable-requires c =
    let l = c.args.link.now in
    let here = subst (λ (v : Vertex). IsStanding c.args.area.now.lsas v None) c.vertex-from.ensures c.in_default.ensures.none in
    tail_stands c.args.area.now c.requires.tree l.from l.to l.cost l.label c.requires.link here
