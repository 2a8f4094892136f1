-- So far what the vertices up to here offer is there, and the routers among them are updated.
use Rattle.std.proofs.Common.{take}
use Rattle.ospf_types.specs.declared.entry.Vertex.TheVariants.{Router}
use Rattle.spf.specs.HandedOn.{IsOfSome}
use Rattle.intra.specs.Following.{HasOffered, AreRoutersUpdated, NamesIn}
use Rattle.intra.proofs.area.AreaIntra.follow_vertices.Given as goal

abbrev pub invariant-loop-vertex : goal.invariant-loop-vertex
invariant-loop-vertex l = record {
  offered : HasOffered l.initial.self.index (IsOfSome (take l.vertex-index l.vertices) (NamesIn l.initial.self.id)) l.initial.named.prefixes.items l.named.prefixes.items;
  updated : AreRoutersUpdated l.rooted.root l.rooted.area.now (λ r. IsOfSome (take l.vertex-index l.vertices) (NamesIn l.initial.self.id) (Router r)) l.initial.self l.self l.initial.named.routers.items l.named.routers.items;
}
