use Rattle.std.proofs.Common.{string_bytes, drop}
use Rattle.std.specs.List.{flat_map}
use Rattle.replay.specs.Lines.{due_line}
use Rattle.replay.proofs.Paging.{Adding}
use Rattle.replay.proofs.showing.show_area.Given as goal

abbrev pub invariant-loop-due : goal.invariant-loop-due
invariant-loop-due g l =
    Adding (g.W.Write.contents l.initial.out) (g.W.Write.contents l.out) (string_bytes l.initial.buffer) (string_bytes l.buffer) (flat_map (due_line l.fn.format l.area) l.list)
    (flat_map (due_line l.fn.format l.area) (drop l.due-index l.list))
