use Rattle.std.proofs.Common.{refl, inl}
use Rattle.abr_cli.proofs.Ended.{ended_early}
use Rattle.abr_cli.proofs.replaying.ReplayCommand.run.Goals as goal

pub returns-in-Ok : goal.returns-in-Ok
returns-in-Ok g c = (_, c.run_with.ensures.progress, inl (refl, c.in-Ok.ensures.end, refl))

pub returns-in-Err : goal.returns-in-Err
returns-in-Err g c = (
  _,
  c.run_with.ensures.progress,
  ended_early c.args.self.file c.args.self.options.workers c.in-Err.fault _ _ _ _ _ _ _ _ c.in-Err.ensures.end c.say_end.ensures,
)
