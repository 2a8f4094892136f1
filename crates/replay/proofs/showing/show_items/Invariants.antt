use Rattle.std.proofs.Common.{string_bytes}
use Rattle.std.specs.List.{flat_map}
use Rattle.std.specs.FinMap.{entries}
use Rattle.replay.specs.Lines.{item_line}
use Rattle.replay.proofs.Paging.{Adding}
use Rattle.replay.proofs.showing.show_items.Given as goal

abbrev pub invariant-loop-prefix : goal.invariant-loop-prefix
invariant-loop-prefix g l =
    Adding (g.W.Write.contents l.initial.out) (g.W.Write.contents l.out) (string_bytes l.initial.buffer) (string_bytes l.buffer) (flat_map (item_line l.fn.format) (entries l.fn.table.items)) (flat_map (item_line l.fn.format) l.prefix-iterator)
