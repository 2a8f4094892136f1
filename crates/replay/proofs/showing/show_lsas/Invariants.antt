use Rattle.std.proofs.Common.{string_bytes}
use Rattle.std.specs.List.{flat_map}
use Rattle.std.specs.Vec.Iter.{into_iter_items}
use Rattle.replay.specs.Lines.{lsa_line}
use Rattle.replay.proofs.Paging.{Adding}
use Rattle.replay.proofs.showing.show_lsas.Given as goal

abbrev pub invariant-loop-scope : goal.invariant-loop-scope
invariant-loop-scope g l =
    Adding (g.W.Write.contents l.initial.out) (g.W.Write.contents l.out) (string_bytes l.initial.buffer) (string_bytes l.buffer) (flat_map (lsa_line l.fn.format) l.fn.lsas.items)
    (flat_map (lsa_line l.fn.format) (into_iter_items l.scope-iterator))
