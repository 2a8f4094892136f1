use Rattle.std.proofs.Common.{string_bytes, drop}
use Rattle.std.specs.List.{flat_map}
use Rattle.replay.proofs.Paging.{Adding}
use Rattle.change_log.specs.Lines.{line_of, lines_of}
use Rattle.change_log.specs.Changes.{area_changes, due_change}
use Rattle.change_log.proofs.showing.show_metrics.Given as goal

abbrev pub invariant-loop-change : goal.invariant-loop-change
invariant-loop-change g l =
    Adding (g.W.Write.contents l.initial.out) (g.W.Write.contents l.out) (string_bytes l.initial.buffer) (string_bytes l.buffer)
    (lines_of l.at.number l.at.wanted (area_changes (l.area, l.metrics))) (flat_map (λ change. line_of l.at.number l.at.wanted (due_change l.area change)) (drop l.change-index l.metrics))
