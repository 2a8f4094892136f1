use Rattle.std.proofs.Common.{string_bytes, drop}
use Rattle.std.specs.List.{flat_map}
use Rattle.replay.proofs.Paging.{Adding}
use Rattle.change_log.specs.Lines.{lines_of}
use Rattle.change_log.specs.Changes.{area_changes}
use Rattle.change_log.proofs.Texts.{changed_in}
use Rattle.change_log.proofs.showing.show_due_changes.Given as goal

abbrev pub invariant-loop-place : goal.invariant-loop-place
invariant-loop-place g l =
    Adding (g.W.Write.contents l.initial.out) (g.W.Write.contents l.out) (string_bytes l.initial.buffer) (string_bytes l.buffer) (lines_of l.at.number l.at.wanted (flat_map area_changes l.changes))
    (flat_map (changed_in l.at.number l.at.wanted) (drop l.place l.changes))
