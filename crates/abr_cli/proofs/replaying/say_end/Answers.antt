use Rattle.std.proofs.Common.{sym, ◌∙◌}
use Rattle.abr_cli.proofs.Ended.{fault_said, unwritten_said}
use Rattle.abr_cli.proofs.replaying.say_end.Goals as goal

pub returns-in-Ok : goal.returns-in-Ok
returns-in-Ok g c = fault_said c.args.file c.args.fault _ _ _ _ (sym c.fault_from.ensures ∙ c.in-Ok.is) c.say_fault.ensures

pub returns-in-Err : goal.returns-in-Err
returns-in-Err g c = unwritten_said c.args.file c.args.fault _ _ _ _ (sym c.fault_from.ensures ∙ c.in-Err.is) c.say_unwritten.ensures
