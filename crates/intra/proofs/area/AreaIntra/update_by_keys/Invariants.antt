-- So far the routers that are named up to here are updated.
use Rattle.std.proofs.Common.{take}
use Rattle.ospf_types.specs.declared.entry.Vertex.TheVariants.{Router}
use Rattle.spf.specs.HandedOn.{IsOfSome}
use Rattle.intra.specs.Following.{AreRoutersUpdated, NamesVertex}
use Rattle.intra.proofs.area.AreaIntra.update_by_keys.Given as goal

abbrev pub invariant-loop-named : goal.invariant-loop-named
invariant-loop-named l =
    AreRoutersUpdated l.rooted.root l.rooted.area.now (λ r. IsOfSome (take l.named-index l.keys) (NamesVertex l.initial.self.id) (Router r)) l.initial.self l.self l.initial.routers.items l.routers.items
