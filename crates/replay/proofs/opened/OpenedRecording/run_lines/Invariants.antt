use Rattle.std.proofs.Common.{string_bytes}
use Rattle.std.specs.Vec.Iter.{into_iter_items}
use Rattle.replay.specs.Lines.{first_number}
use Rattle.replay.proofs.Advance.{Advanced}
use Rattle.replay.proofs.RunSteps.{Running}
use Rattle.replay.proofs.opened.OpenedRecording.run_lines.Given as goal

abbrev pub invariant-loop-line : goal.invariant-loop-line
invariant-loop-line g l = record {
  running : Running l.fn.printing.format l.fn.self.core (first_number l.fn.self.version l.fn.self.core.base) l.fn.self.lines.items (into_iter_items l.line-iterator) l.number l.core (g.W.Write.contents l.initial.out)
      (g.W.Write.contents l.out) (string_bytes l.initial.buffer) (string_bytes l.buffer);
  shown : Advanced l.progress (first_number l.fn.self.version l.fn.self.core.base) l.number (g.F.Write.contents l.initial.faults) (g.F.Write.contents l.faults);
}
