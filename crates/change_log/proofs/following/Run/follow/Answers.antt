use Rattle.std.proofs.Common.{◌∙◌, refl}
use Rattle.replay.specs.declared.buffer.PrintError.TheVariants as stop
use Rattle.replay.proofs.Written.{err_as}
use Rattle.replay.proofs.Advance.{progress_none}
use Rattle.change_log.proofs.Behind.{shown_next}
use Rattle.change_log.proofs.Comes.{last_taken, line_taken}
use Rattle.change_log.proofs.FollowSteps.{takes_none, takes_some, cut_last, fault_next, followed_as, so_far_more, so_far_none, so_far_page, stops_here, stops_next, unread, none_lost}
use Rattle.change_log.proofs.following.Run.follow.Goals as goal

pub loop-init : goal.loop-init
loop-init g c = record { kept = c.requires.kept; current = c.requires.current; same = refl; shown = progress_none _ _; taken = λ before given. so_far_none before _ _ _ _ }

pub returns-in-Ok-Cut-clause-ok : goal.returns-in-Ok-Cut-clause-ok
returns-in-Ok-Cut-clause-ok g c = λ before given.
    let h = c.loop.invariant.taken before given in
    cut_last _ _ _ _ _ _ _ _ _ given h _ _ _ _ (last_taken _ c.in-Ok-Cut.ensures.taken c.in-Ok-Cut.field-0-is) (followed_as _ _ _ _ _ _ _ _ _ given h _ refl refl refl refl refl refl refl refl)

pub returns-in-Err-Read-clause-ok : goal.returns-in-Err-Read-clause-ok
returns-in-Err-Read-clause-ok g c = λ before given.
    let h = c.loop.invariant.taken before given in
    (h.bytes, followed_as _ _ _ _ _ _ _ _ _ given h _ refl refl refl refl refl refl refl refl, unread _ _ _ _ _ _ _ _ _ given h _ _ c.in-Err-Read.ensures.taken)

pub returns-in-Err-Memory-clause-err : goal.returns-in-Err-Memory-clause-err
returns-in-Err-Memory-clause-err g c = λ before given whole. stops_here _ _ _ _ _ _ _ _ _ given (c.loop.invariant.taken before given) stop.Memory _ _ refl whole c.in-Err-Memory.ensures.taken

pub returns-in_err-fault-clause-err : goal.returns-in_err-fault-clause-err
returns-in_err-fault-clause-err g c = λ before given whole.
    let h = c.loop.invariant.taken before given in
    err_as _ c.from_residual.result c.in_err-fault.field-0.0 c.from_residual.ensures.1
    (stops_next _ _ _ _ _ _ _ _ _ given h _ refl refl refl refl refl refl refl refl _ _ (line_taken _ c.in-Ok-Line.ensures.taken c.in-Ok-Line.field-0-is) _ _ whole (c.in_err-fault.ensures.err (so_far_page _ _ _ _ _ _ _ _ _ given h whole)))

pub returns-in-Some-clause-ok : goal.returns-in-Some-clause-ok
returns-in-Some-clause-ok g c = λ before given.
    fault_next _ _ _ _ _ _ _ _ _ given (c.loop.invariant.taken before given) _ refl refl refl refl refl refl refl refl _ _ (line_taken _ c.in-Ok-Line.ensures.taken c.in-Ok-Line.field-0-is) c.in-Some.fault _ _ (takes_some _ c.in-Some.fault _ _ _ _ c.in-Some.is c.in_ok-fault.ensures.ok)

pub loop-preserved : goal.loop-preserved
loop-preserved g c =
    let x = takes_none _ _ _ _ _ c.in_default.is c.in_ok-fault.ensures.ok in
    record {
      kept = x.0.core;
      current = x.0.current;
      same = x.0.same.progress ∙ c.loop.invariant.same;
      shown = shown_next _ _ _ _ _ _ c.loop.invariant.same c.loop.invariant.shown c.show.ensures;
      taken = λ before given. so_far_more _ _ _ _ _ _ _ _ _ given (c.loop.invariant.taken before given) _ refl refl refl refl refl refl refl refl _ _ (line_taken _ c.in-Ok-Line.ensures.taken c.in-Ok-Line.field-0-is) _ _ x;
    }

pub returns-clause-err : goal.returns-clause-err
returns-clause-err g c = λ before given whole. stops_here _ _ _ _ _ _ _ _ _ given (c.loop.invariant.taken before given) stop.Memory _ _ refl whole (none_lost _ _)

pub returns-in-Ok-Cut-clause-progress : goal.returns-in-Ok-Cut-clause-progress
returns-in-Ok-Cut-clause-progress g c = shown_next _ _ _ _ _ _ c.loop.invariant.same c.loop.invariant.shown c.show.ensures

pub returns-in-Ok-End-clause-progress : goal.returns-in-Ok-End-clause-progress
returns-in-Ok-End-clause-progress g c = shown_next _ _ _ _ _ _ c.loop.invariant.same c.loop.invariant.shown c.show.ensures

pub returns-in-Err-Read-clause-progress : goal.returns-in-Err-Read-clause-progress
returns-in-Err-Read-clause-progress g c = shown_next _ _ _ _ _ _ c.loop.invariant.same c.loop.invariant.shown c.show.ensures

pub returns-in-Err-Memory-clause-progress : goal.returns-in-Err-Memory-clause-progress
returns-in-Err-Memory-clause-progress g c = shown_next _ _ _ _ _ _ c.loop.invariant.same c.loop.invariant.shown c.show.ensures

pub returns-in_err-fault-clause-progress : goal.returns-in_err-fault-clause-progress
returns-in_err-fault-clause-progress g c = shown_next _ _ _ _ _ _ c.loop.invariant.same c.loop.invariant.shown c.show.ensures

pub returns-in-Some-clause-progress : goal.returns-in-Some-clause-progress
returns-in-Some-clause-progress g c = shown_next _ _ _ _ _ _ c.loop.invariant.same c.loop.invariant.shown c.show.ensures
