use Rattle.std.proofs.Common.{None, inr, refl}
use Rattle.capture_recording.proofs.capturing.record_given.Goals as goal

pub returns-in-Err : goal.returns-in-Err
returns-in-Err g c = (None, inr tt, (c.in-Err.ensures.fault, refl, refl, refl))
