use Rattle.std.proofs.Common.{None, [], ◌++◌, ◌∙◌, ℕ, List, length, not, ◌==◌, ap, refl}
use Rattle.replay.proofs.Written.{appends_none, appends_more, err_as}
use Rattle.capture_recording.specs.declared.fault.CapturingFault.TheVariants.{Memory}
use Rattle.capture_recording.proofs.Recorded.{ended, gone_through, none_waiting, nothing_waits, recorded_first, recorded_more, recorded_written, took}
use Rattle.capture_recording.proofs.Outcomes.{none_streamed, part_streamed, some_streamed, streams_part}
use Rattle.capture_recording.proofs.going.stream.Goals as goal

pub returns-in_err-source-clause-err : goal.returns-in_err-source-clause-err
returns-in_err-source-clause-err g c =
    err_as _ c.from_residual.result Memory c.from_residual.ensures.1
    (none_streamed c.args.start (g.R.Read.remaining c.args.input.now) (g.W.Write.contents c.args.out.now) (g.F.Write.contents c.args.faults.now))

pub hand_next-requires : goal.hand_next-requires
hand_next-requires g c = record { due = c.loop.invariant.due }

pub loop-init : goal.loop-init
loop-init g c = record {
  written = [];
  appended = appends_none (g.W.Write.contents c.args.out.now);
  recorded = recorded_first c.args.start None (g.R.Read.remaining c.args.input.now) (g.F.Write.contents c.args.faults.now)
      c.in_ok-source.source.reader c.new-session.result c.new-session.ensures c.in_ok-source.ensures;
  due = λ given none. none_waiting c.args.start None c.new-session.result c.new-session.ensures;
}

pub returns-in_err-hand_next-clause-err : goal.returns-in_err-hand_next-clause-err
returns-in_err-hand_next-clause-err g c =
    let inv = c.loop.invariant in
    err_as _ c.from_residual-in_err-hand_next.result Memory c.from_residual-in_err-hand_next.ensures.1
    (some_streamed c.args.start None (g.R.Read.remaining c.args.input.now) (g.F.Write.contents c.args.faults.now) c.loop.source.reader (g.R.Read.remaining c.loop.input) (g.F.Write.contents c.loop.faults) c.loop.session inv.written inv.recorded (g.W.Write.contents c.args.out.now) (g.W.Write.contents c.loop.out) (g.F.Write.contents c.hand_next.new.faults) inv.appended c.in_err-hand_next.ensures.err)

pub returns-in_err-write_due-in-None-clause-err : goal.returns-in_err-write_due-in-None-clause-err
returns-in_err-write_due-in-None-clause-err g c =
    let inv = c.loop.invariant in
    let failed = c.in_err-write_due-in-None in
    let next = took c.loop.source.reader c.hand_next.new.self.reader (g.R.Read.remaining c.loop.input) (g.R.Read.remaining c.hand_next.new.input) (g.F.Write.contents c.loop.faults) (g.F.Write.contents c.hand_next.new.faults) c.loop.session c.hand_next.new.session c.in_ok-hand_next.field-0 c.in_ok-hand_next.ensures.ok c.in-None.is in
    let more = recorded_more c.args.start None (g.R.Read.remaining c.args.input.now) (g.F.Write.contents c.args.faults.now) c.loop.source.reader c.hand_next.new.self.reader (g.R.Read.remaining c.loop.input) (g.R.Read.remaining c.hand_next.new.input) (g.F.Write.contents c.loop.faults) (g.F.Write.contents c.hand_next.new.faults) c.loop.session c.hand_next.new.session inv.written inv.recorded next in
    err_as _ c.from_residual-in_err-write_due-in-None.result failed.field-0.0 c.from_residual-in_err-write_due-in-None.ensures.1
    (streams_part c.args.start (g.R.Read.remaining c.args.input.now) (g.R.Read.remaining c.hand_next.new.input) (g.W.Write.contents c.args.out.now) (g.W.Write.contents c.write_due.new.out) (g.F.Write.contents c.args.faults.now) (g.F.Write.contents c.hand_next.new.faults) failed.field-0.0 failed.ensures.fault
    (part_streamed c.args.start None (g.R.Read.remaining c.args.input.now) (g.F.Write.contents c.args.faults.now) c.hand_next.new.self.reader (g.R.Read.remaining c.hand_next.new.input) (g.F.Write.contents c.hand_next.new.faults) c.hand_next.new.session inv.written more (g.W.Write.contents c.args.out.now) (g.W.Write.contents c.loop.out) (g.W.Write.contents c.write_due.new.out) inv.appended failed.ensures.err))

pub returns-in-Some-clause-ok : goal.returns-in-Some-clause-ok
returns-in-Some-clause-ok g c =
    let inv = c.loop.invariant in (
      inv.written,
      inv.appended,
      gone_through c.args.start None (g.R.Read.remaining c.args.input.now) (g.F.Write.contents c.args.faults.now) c.loop.source.reader c.hand_next.new.self.reader (g.R.Read.remaining c.loop.input) (g.R.Read.remaining c.hand_next.new.input) (g.F.Write.contents c.loop.faults) (g.F.Write.contents c.hand_next.new.faults) c.loop.session c.hand_next.new.session inv.written inv.recorded c.in-Some.ending
          (ended c.loop.source.reader c.hand_next.new.self.reader (g.R.Read.remaining c.loop.input) (g.R.Read.remaining c.hand_next.new.input) (g.F.Write.contents c.loop.faults) (g.F.Write.contents c.hand_next.new.faults) c.loop.session c.hand_next.new.session c.in_ok-hand_next.field-0 c.in_ok-hand_next.ensures.ok c.in-Some.ending c.in-Some.is),
    )

pub loop-preserved : goal.loop-preserved
loop-preserved g c =
    let inv = c.loop.invariant in
    let some = c.in_ok-write_due-in-None.ensures.ok in
    let some_due = c.in_ok-write_due-in-None.ensures.due in
    let next = took c.loop.source.reader c.hand_next.new.self.reader (g.R.Read.remaining c.loop.input) (g.R.Read.remaining c.hand_next.new.input) (g.F.Write.contents c.loop.faults) (g.F.Write.contents c.hand_next.new.faults) c.loop.session c.hand_next.new.session c.in_ok-hand_next.field-0 c.in_ok-hand_next.ensures.ok c.in-None.is in
    let more = recorded_more c.args.start None (g.R.Read.remaining c.args.input.now) (g.F.Write.contents c.args.faults.now) c.loop.source.reader c.hand_next.new.self.reader (g.R.Read.remaining c.loop.input) (g.R.Read.remaining c.hand_next.new.input) (g.F.Write.contents c.loop.faults) (g.F.Write.contents c.hand_next.new.faults) c.loop.session c.hand_next.new.session inv.written inv.recorded next in
    record {
      written = inv.written ++ some.front;
      appended = appends_more (g.W.Write.contents c.args.out.now) (g.W.Write.contents c.loop.out) (g.W.Write.contents c.write_due.new.out) inv.written some.front inv.appended some.written;
      recorded = recorded_written c.args.start None (g.R.Read.remaining c.args.input.now) (g.F.Write.contents c.args.faults.now) c.hand_next.new.self.reader (g.R.Read.remaining c.hand_next.new.input) (g.F.Write.contents c.hand_next.new.faults) c.hand_next.new.session inv.written some.front c.write_due.new.lines more some.joined;
      due = λ given none. nothing_waits (record c.hand_next.new.session { lines = c.write_due.new.lines }) (more.keeps refl) (some_due (c.has_pending.ensures ∙ ap (λ (xs : List ℕ). not (length xs == 0)) none));
    }
