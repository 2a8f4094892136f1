use Rattle.std.proofs.Common.{inl, inr}
use Rattle.change_log.specs.declared.opening.PreambleEnd.TheVariants as front_end
use Rattle.recording.specs.declared.fault.Fault.TheVariants as fault
use Rattle.change_log.specs.declared.following.End.TheVariants as end
use Rattle.replay.proofs.Advance.{progress_none}
use Rattle.replay.proofs.Written.{err_as}
use Rattle.change_log.proofs.FollowSteps.{takes_none, takes_some}
use Rattle.change_log.proofs.Behind.{all_end_as, all_stop_as, cut_behind, ends_as, fault_behind, line_faults, line_stops, lines_end, lines_stop, long_behind, over_behind, shown_as}
use Rattle.change_log.proofs.following.Run.go_on.Goals as goal

pub returns-in_err-fault-in-Line-clause-err : goal.returns-in_err-fault-in-Line-clause-err
returns-in_err-fault-in-Line-clause-err g c = λ buffer.
    all_stop_as c.args.front front_end.Line _ _ _ _ _ _ _ c.in-Line.is
    (err_as _ c.from_residual.result c.in_err-fault-in-Line.field-0.0 c.from_residual.ensures.1 (line_stops _ _ _ _ c.in_err-fault-in-Line.field-0.0 _ buffer (c.in_err-fault-in-Line.ensures.err buffer)))

pub returns-in-Some-clause-ok : goal.returns-in-Some-clause-ok
returns-in-Some-clause-ok g c =
    let old = c.args.self.now in
    let left = g.R.Read.remaining c.args.input.now in
    let out = g.W.Write.contents c.args.out.now in
    ends_as c.args.front front_end.Line (end.AtFault c.in-Some.fault) old c.take.new.self c.args.lines.now left left out (g.W.Write.contents c.take.new.out) c.in-Line.is
    (line_faults old c.args.lines.now left out c.in-Some.fault c.take.new.self (g.W.Write.contents c.take.new.out) (takes_some _ c.in-Some.fault _ _ _ _ c.in-Some.is c.in_ok-fault-in-Line.ensures.ok))

pub returns-in_default-clause-ok : goal.returns-in_default-clause-ok
returns-in_default-clause-ok g c =
    let x = takes_none _ _ _ _ _ c.in_default.is c.in_ok-fault-in-Line.ensures.ok in
    all_end_as c.args.front front_end.Line _ _ _ _ _ _ _ _ c.in-Line.is (lines_end _ _ _ _ _ _ _ _ _ x c.follow.result c.follow.ensures.ok)

pub returns-in_default-clause-err : goal.returns-in_default-clause-err
returns-in_default-clause-err g c = λ buffer.
    let x = takes_none _ _ _ _ _ c.in_default.is c.in_ok-fault-in-Line.ensures.ok in
    all_stop_as c.args.front front_end.Line _ _ _ _ _ _ _ c.in-Line.is (lines_stop _ _ c.follow.new.self _ _ _ _ _ _ x c.follow.result buffer c.follow.ensures.err)

pub returns-in_default-clause-progress : goal.returns-in_default-clause-progress
returns-in_default-clause-progress g c =
    let x = takes_none _ _ _ _ _ c.in_default.is c.in_ok-fault-in-Line.ensures.ok in
    shown_as _ _ _ _ x.0.same.progress c.follow.ensures.progress

pub returns-in-Cut-clause-ok : goal.returns-in-Cut-clause-ok
returns-in-Cut-clause-ok g c =
    let old = c.args.self.now in
    let left = g.R.Read.remaining c.args.input.now in
    let out = g.W.Write.contents c.args.out.now in
    ends_as c.args.front front_end.Cut (end.AtFault fault.Truncated) old old c.args.lines.now left left out out c.in-Cut.is (cut_behind old c.args.lines.now left out)

pub returns-in-Over : goal.returns-in-Over
returns-in-Over g c =
    let old = c.args.self.now in
    let left = g.R.Read.remaining c.args.input.now in
    let out = g.W.Write.contents c.args.out.now in
    record {
      ok = elim c.in-Over.is [
        | inl over ↦ ends_as c.args.front front_end.Over end.Over old old c.args.lines.now left left out out over (over_behind old c.args.lines.now left out)
        | inr (inl long) ↦ ends_as c.args.front front_end.LongLine end.Over old old c.args.lines.now left left out out long (long_behind old c.args.lines.now left out end.Over)
        | inr (inr (f, at)) ↦ ends_as c.args.front (front_end.AtFault f) end.Over old old c.args.lines.now left left out out at (fault_behind old c.args.lines.now left out f end.Over)
      ];
      err = λ buffer. tt;
      progress = progress_none old.progress (g.F.Write.contents c.args.faults.now);
    }
