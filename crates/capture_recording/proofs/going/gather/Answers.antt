use Rattle.std.proofs.Common.{Some, []}
use Rattle.replay.proofs.Written.{on_err}
use Rattle.capture_recording.proofs.Recorded.{ended, gone_through, recorded_first, recorded_more, took}
use Rattle.capture_recording.proofs.Outcomes.{none_gathered, some_gathered}
use Rattle.capture_recording.proofs.going.gather.Goals as goal

pub returns-in_err-source-clause-err : goal.returns-in_err-source-clause-err
returns-in_err-source-clause-err g c =
    on_err c.from_residual.result (none_gathered c.args.start (g.R.Read.remaining c.args.input.now) (g.F.Write.contents c.args.faults.now))

pub loop-init : goal.loop-init
loop-init g c =
    recorded_first c.args.start (Some c.args.router) (g.R.Read.remaining c.args.input.now) (g.F.Write.contents c.args.faults.now)
    c.in_ok-source.source.reader c.new-session.result c.new-session.ensures c.in_ok-source.ensures

pub returns-in_err-hand_next-clause-err : goal.returns-in_err-hand_next-clause-err
returns-in_err-hand_next-clause-err g c =
    on_err c.from_residual-in_err-hand_next.result
    (some_gathered c.args.start (Some c.args.router) (g.R.Read.remaining c.args.input.now) (g.F.Write.contents c.args.faults.now) c.loop.source.reader (g.R.Read.remaining c.loop.input) (g.F.Write.contents c.loop.faults) c.loop.session [] c.loop.invariant (g.F.Write.contents c.hand_next.new.faults) c.in_err-hand_next.ensures.err)

pub returns-in-Some-clause-ok : goal.returns-in-Some-clause-ok
returns-in-Some-clause-ok g c =
    gone_through c.args.start (Some c.args.router) (g.R.Read.remaining c.args.input.now) (g.F.Write.contents c.args.faults.now) c.loop.source.reader c.hand_next.new.self.reader (g.R.Read.remaining c.loop.input) (g.R.Read.remaining c.hand_next.new.input) (g.F.Write.contents c.loop.faults) (g.F.Write.contents c.hand_next.new.faults) c.loop.session c.hand_next.new.session [] c.loop.invariant c.in-Some.ending
    (ended c.loop.source.reader c.hand_next.new.self.reader (g.R.Read.remaining c.loop.input) (g.R.Read.remaining c.hand_next.new.input) (g.F.Write.contents c.loop.faults) (g.F.Write.contents c.hand_next.new.faults) c.loop.session c.hand_next.new.session c.in_ok-hand_next.field-0 c.in_ok-hand_next.ensures.ok c.in-Some.ending c.in-Some.is)

pub loop-preserved : goal.loop-preserved
loop-preserved g c =
    let next = took c.loop.source.reader c.hand_next.new.self.reader (g.R.Read.remaining c.loop.input) (g.R.Read.remaining c.hand_next.new.input) (g.F.Write.contents c.loop.faults) (g.F.Write.contents c.hand_next.new.faults) c.loop.session c.hand_next.new.session c.in_ok-hand_next.field-0 c.in_ok-hand_next.ensures.ok c.in-None.is in
    recorded_more c.args.start (Some c.args.router) (g.R.Read.remaining c.args.input.now) (g.F.Write.contents c.args.faults.now) c.loop.source.reader c.hand_next.new.self.reader (g.R.Read.remaining c.loop.input) (g.R.Read.remaining c.hand_next.new.input) (g.F.Write.contents c.loop.faults) (g.F.Write.contents c.hand_next.new.faults) c.loop.session c.hand_next.new.session [] c.loop.invariant next
