use Rattle.std.proofs.Common.{ℕ, List, None}
use Rattle.std.specs.Io.KnownBytes.{Appends}
use Rattle.capture_recording.specs.Going.{IsLineDue, IsRecordedTo}
use Rattle.capture_recording.proofs.going.stream.Given as goal

-- each packet so far was taken, and some of their lines were written: all of them, if the input is
-- to be read
abbrev pub invariant-loop : goal.invariant-loop
invariant-loop g l = record {
  written : List ℕ;
  appended : Appends (g.W.Write.contents l.initial.out) (g.W.Write.contents l.out) written;
  recorded : IsRecordedTo l.fn.start None (g.R.Read.remaining l.initial.input) (g.F.Write.contents l.initial.faults)
      l.source.reader (g.R.Read.remaining l.input) (g.F.Write.contents l.faults) l.session written;
  due : IsLineDue l.source.reader l.session;
}
