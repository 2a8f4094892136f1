use Rattle.std.proofs.Common.{ap, Err, inl, inr, refl}
use Rattle.abr_cli.proofs.Explained.{early_by_fault, word_said}
use Rattle.abr_cli.proofs.Shown.{run_told}
use Rattle.abr_cli.proofs.explaining.ExplainCommand.run.Goals as goal

pub returns-in-Err : goal.returns-in-Err
returns-in-Err g c = inl (c.in-Err.fault, c.in-Err.ensures.fault, word_said _ _ c.in-Err.fault _ _ _ _ _ c.in-Err.ensures.fault c.say_fault.ensures)

pub returns-in-Ok-ended : goal.returns-in-Ok-ended
returns-in-Ok-ended g c =
    let said = c.in-Ok-ended.ensures in inr (c.in-Ok.question, c.in-Ok.ensures.asks, (_, run_told c.args.self.progress _ _ _ _ c.show.ensures said.progress c.end.ensures, inl (refl, said.ok, refl)))

pub returns-in-Err-ended : goal.returns-in-Err-ended
returns-in-Err-ended g c =
    let said = c.in-Err-ended.ensures in
    let early = early_by_fault g.W.Write.contents _ c.in-Err-ended.fault _ _ _ _ (λ e. said.read (ap Err e)) (λ f e. said.line f (ap Err e)) (λ e. said.write (ap Err e)) (λ e. said.closed (ap Err e)) (λ e. said.memory (ap Err e)) in
    inr (c.in-Ok.question, c.in-Ok.ensures.asks, (_, run_told c.args.self.progress _ _ _ _ c.show.ensures said.progress c.end.ensures, inr (c.in-Err-ended.fault, early, c.say_end.ensures)))
