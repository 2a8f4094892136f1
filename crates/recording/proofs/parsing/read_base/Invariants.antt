use Rattle.std.proofs.Common.{◌≡◌, ◌-◌, length}
use Rattle.recording.specs.Left.{HasBaseAt, IsCounted}
use Rattle.recording.proofs.parsing.read_base.Given as goal

abbrev pub invariant-loop-held : goal.invariant-loop-held
invariant-loop-held l = record {
  read : HasBaseAt l.version l.left l.held.base;
  counted : IsCounted l.held;
  text : l.left.text.now ≡ l.fn.lines.text.now;
}

-- the bytes that are left
abbrev pub decreases-loop-held : goal.decreases-loop-held
decreases-loop-held l = length l.left.text.now - l.left.start
