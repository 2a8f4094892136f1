use Rattle.std.proofs.Common.{◌≡◌, ◌-◌, [], length}
use Rattle.recording.specs.Left.{EndsBaseAt, HasLinesAt}
use Rattle.recording.proofs.parsing.read_lines.Given as goal

abbrev pub invariant-loop-line : goal.invariant-loop-line
invariant-loop-line l = record {
  read : HasLinesAt l.left (record { version = l.version; base = l.base; lines = l.found.items });
  end : l.found.items ≡ [] → EndsBaseAt l.version l.left;
  text : l.left.text.now ≡ l.fn.lines.text.now;
}

-- the bytes that are left
abbrev pub decreases-loop-line : goal.decreases-loop-line
decreases-loop-line l = length l.left.text.now - l.left.start
