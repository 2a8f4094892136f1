use Rattle.std.proofs.Common.{inl, inr, refl}
use Rattle.abr_cli.proofs.capturing.CaptureCommand.run.Goals as goal

pub returns-in-Err : goal.returns-in-Err
returns-in-Err g c = inl (c.in-Err.fault, c.in-Err.ensures.fault, refl, refl, c.say_fault.ensures)

pub returns-in-Ok-ended : goal.returns-in-Ok-ended
returns-in-Ok-ended g c = inr (c.in-Ok.beginning, c.in-Ok.ensures.beginning, inl (refl, c.in-Ok-ended.ensures))

pub returns-in-Err-ended : goal.returns-in-Err-ended
returns-in-Err-ended g c = inr (c.in-Ok.beginning, c.in-Ok.ensures.beginning, inr (c.in-Err-ended.fault, _, c.in-Err-ended.ensures, c.say_capture_end.ensures))
