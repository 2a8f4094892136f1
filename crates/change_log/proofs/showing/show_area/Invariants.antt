use Rattle.std.proofs.Common.{string_bytes, drop}
use Rattle.std.specs.List.{flat_map}
use Rattle.replay.proofs.Paging.{Adding}
use Rattle.change_log.specs.Lines.{line_of, lines_of}
use Rattle.change_log.specs.Changes.{area_due, summary_due}
use Rattle.change_log.proofs.showing.show_area.Given as goal

abbrev pub invariant-loop-due : goal.invariant-loop-due
invariant-loop-due g l =
    Adding (g.W.Write.contents l.initial.out) (g.W.Write.contents l.out) (string_bytes l.initial.buffer) (string_bytes l.buffer)
    (lines_of l.at.number l.at.wanted (area_due (l.area, l.list))) (flat_map (λ due. line_of l.at.number l.at.wanted (summary_due l.area due)) (drop l.due-index l.list))
