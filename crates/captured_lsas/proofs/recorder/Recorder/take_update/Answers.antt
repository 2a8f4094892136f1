use Rattle.captured_lsas.proofs.Pieces.{cut_recorded, cut_noted, not_begun, on_err}
use Rattle.captured_lsas.proofs.recorder.Recorder.take_update.Goals as goal

pub returns-in_err-vec-in-Err-clause-stopped : goal.returns-in_err-vec-in-Err-clause-stopped
returns-in_err-vec-in-Err-clause-stopped c = on_err c.from_residual.result _ (not_begun c.args.self.now c.args.area _)

pub returns-in_ok-vec-in-Err-clause-recorded : goal.returns-in_ok-vec-in-Err-clause-recorded
returns-in_ok-vec-in-Err-clause-recorded c =
    cut_recorded c.args.self.now c.args.area c.args.body.now c.in-Err.fault c.in_ok-vec-in-Err.field-0.items c.in-Err.ensures.fault c.in_ok-vec-in-Err.ensures.items

pub returns-in_ok-vec-in-Err-clause-noted : goal.returns-in_ok-vec-in-Err-clause-noted
returns-in_ok-vec-in-Err-clause-noted c = cut_noted c.args.self.now c.args.area c.args.body.now c.in-Err.ensures.fault.1
