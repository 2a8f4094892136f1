use Rattle.std.proofs.Common.{string_bytes, map}
use Rattle.std.specs.List.{flat_map}
use Rattle.std.specs.FinMap.{entries}
use Rattle.replay.proofs.Paging.{Adding}
use Rattle.change_log.specs.Lines.{line_of, lines_of}
use Rattle.change_log.specs.Changes.{item_set}
use Rattle.change_log.proofs.showing.show_items.Given as goal

abbrev pub invariant-loop-prefix : goal.invariant-loop-prefix
invariant-loop-prefix g l =
    Adding (g.W.Write.contents l.initial.out) (g.W.Write.contents l.out) (string_bytes l.initial.buffer) (string_bytes l.buffer)
    (lines_of l.at.number l.at.wanted (map item_set (entries l.fn.table.items))) (flat_map (λ e. line_of l.at.number l.at.wanted (item_set e)) l.prefix-iterator)
