use Rattle.std.proofs.Common.{List, length, string_bytes}
use denote.Text.{Utf8}
use denote.Shadow.{shadow}
use Rattle.recording.specs.Forms.{Form}
use Rattle.replay.specs.Lines.{IsTextOf}
use Rattle.replay.proofs.Recorded.{Showing}
use Rattle.replay.proofs.journal.show_recorded.Given as goal

-- the rest is text, and this part of the lines is printed
abbrev pub invariant-loop-line : goal.invariant-loop-line
invariant-loop-line g l =
    shadow (Utf8 l.left) × ((forms : List Form) → IsTextOf l.fn.text forms
    → Showing (g.W.Write.contents l.initial.out) (g.W.Write.contents l.out) (string_bytes l.initial.buffer) (string_bytes l.buffer) forms l.left)

abbrev pub decreases-loop-line : goal.decreases-loop-line
decreases-loop-line g l = length l.left
