use Rattle.std.specs.Vec.Iter.{into_iter_items}
use Rattle.replay.specs.Lines.{first_number}
use Rattle.replay.proofs.Advance.{Advanced}
use Rattle.replay.proofs.RunSteps.{Taking}
use Rattle.replay.proofs.opened.OpenedRecording.run_silently.Given as goal

abbrev pub invariant-loop-line : goal.invariant-loop-line
invariant-loop-line g l = record {
  taking : Taking (first_number l.fn.self.version l.fn.self.core.base) l.number l.fn.self.core l.fn.self.lines.items (into_iter_items l.line-iterator) l.core;
  shown : Advanced l.progress (first_number l.fn.self.version l.fn.self.core.base) l.number (g.F.Write.contents l.initial.faults) (g.F.Write.contents l.faults);
}
