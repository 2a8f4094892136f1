use Rattle.std.proofs.Common.{refl, subst}
use Rattle.captured_lsas.specs.Updates.{StopsInUpdate}
use Rattle.captured_lsas.proofs.Pieces.{none_yet, one_more, stops, on_err}
use Rattle.captured_lsas.proofs.recorder.Recorder.take_pieces.Goals as goal

pub loop-piece-init : goal.loop-piece-init
loop-piece-init c = none_yet c.args.self.now c.args.area c.into_iter-piece-iterator.result c.new-all.result.items c.new-all.ensures.items

pub loop-piece-preserved : goal.loop-piece-preserved
loop-piece-preserved c =
    one_more _ _ _ _ _ _ c.loop-piece.invariant _ _ _ _ _ c.in-Some.ensures.steps c.in_ok-recorded.ensures.noted c.in_ok-recorded.ensures.recorded c.in_ok-push.ensures.items

pub returns-in_err-push-clause-stopped : goal.returns-in_err-push-clause-stopped
returns-in_err-push-clause-stopped c =
    let more = one_more _ _ _ _ _ _ c.loop-piece.invariant _ _ _ _ _ c.in-Some.ensures.steps c.in_ok-recorded.ensures.noted c.in_ok-recorded.ensures.recorded refl in
    on_err c.from_residual-in_err-push.result _
    (subst (StopsInUpdate c.args.self.now c.take_piece.new.self c.args.area) c.into_iter-piece-iterator.ensures.into_iter_gives (stops _ _ _ _ _ _ more c.take_piece.new.self refl))
