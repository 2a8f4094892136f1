use Rattle.std.proofs.Common.{◌≡◌, string_bytes}
use Rattle.std.specs.Vec.Iter.{into_iter_items}
use Rattle.change_log.proofs.RunSteps.{ChangeOptions}
use Rattle.change_log.proofs.running.print_line_changes.Given as goal

abbrev pub invariant-loop-line : goal.invariant-loop-line
invariant-loop-line g l = record {
  wanted : l.at.wanted ≡ l.fn.from.wanted;
  answers : l.at.answers ≡ l.fn.from.answers;
  told : ChangeOptions l.fn.from.wanted l.fn.from.answers l.initial.core l.fn.from.number l.fn.lines.items (into_iter_items l.line-iterator) l.at.number l.core (g.W.Write.contents l.initial.out) (g.W.Write.contents l.out)
      (string_bytes l.initial.buffer) (string_bytes l.buffer);
}
