use Rattle.std.proofs.Common.{Some, []}
use Rattle.capture_recording.specs.Going.{IsRecordedTo}
use Rattle.capture_recording.proofs.going.gather.Given as goal

-- each packet so far was taken
abbrev pub invariant-loop : goal.invariant-loop
invariant-loop g l =
    IsRecordedTo l.fn.start (Some l.fn.router) (g.R.Read.remaining l.initial.input) (g.F.Write.contents l.initial.faults)
    l.source.reader (g.R.Read.remaining l.input) (g.F.Write.contents l.faults) l.session []
