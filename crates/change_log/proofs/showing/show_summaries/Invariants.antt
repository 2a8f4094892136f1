use Rattle.std.proofs.Common.{string_bytes, drop}
use Rattle.std.specs.List.{flat_map}
use Rattle.replay.proofs.Paging.{Adding}
use Rattle.change_log.proofs.Texts.{all_listed, listed_in}
use Rattle.change_log.proofs.showing.show_summaries.Given as goal

abbrev pub invariant-loop-area : goal.invariant-loop-area
invariant-loop-area g l =
    Adding (g.W.Write.contents l.initial.out) (g.W.Write.contents l.out) (string_bytes l.initial.buffer) (string_bytes l.buffer) (all_listed l.at.number l.at.wanted l.area-items)
    (flat_map (listed_in l.at.number l.at.wanted) (drop l.area-index l.area-items))
