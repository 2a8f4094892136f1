use Rattle.std.proofs.Common.{◌≡◌, ◌-◌, length}
use Rattle.recording.specs.Left.{HasHeaderAt}
use Rattle.recording.proofs.parsing.read_areas.Given as goal

abbrev pub invariant-loop-header : goal.invariant-loop-header
invariant-loop-header l = HasHeaderAt l.version l.left l.header × (l.left.text.now ≡ l.fn.lines.text.now)

-- the bytes that are left
abbrev pub decreases-loop-header : goal.decreases-loop-header
decreases-loop-header l = length l.left.text.now - l.left.start
