use Rattle.std.proofs.Common.{string_bytes, drop}
use Rattle.std.specs.List.{flat_map}
use Rattle.replay.proofs.Paging.{Adding, lines_in}
use Rattle.replay.proofs.showing.show_summaries.Given as goal

abbrev pub invariant-loop-area : goal.invariant-loop-area
invariant-loop-area g l =
    Adding (g.W.Write.contents l.initial.out) (g.W.Write.contents l.out) (string_bytes l.initial.buffer) (string_bytes l.buffer) (flat_map (lines_in l.fn.format) l.area-items)
    (flat_map (lines_in l.fn.format) (drop l.area-index l.area-items))
