use Rattle.std.proofs.Common.{◌∙◌, sym}
use Rattle.abr_cli.proofs.capturing.say_capture_end.Goals as goal

pub returns-in-Ok : goal.returns-in-Ok
returns-in-Ok g c = rw (sym c.fault_from_capture.ensures ∙ c.in-Ok.is) c.say_fault.ensures

pub returns-in-Err : goal.returns-in-Err
returns-in-Err g c = rw (sym c.fault_from_capture.ensures ∙ c.in-Err.is) c.say_unwritten.ensures
