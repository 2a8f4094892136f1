use Rattle.std.proofs.Common.{ap, Err, inl, inr, refl}
use Rattle.abr_cli.proofs.Paged.{early_by_fault}
use Rattle.abr_cli.proofs.Shown.{run_told}
use Rattle.abr_cli.proofs.paging.PageCommand.run.Goals as goal

pub returns-in-Ok : goal.returns-in-Ok
returns-in-Ok g c =
    let said = c.in-Ok.ensures in (_, run_told c.args.self.progress _ _ _ _ c.show.ensures said.progress c.end.ensures, inl (refl, said.ok, refl))

pub returns-in-Err : goal.returns-in-Err
returns-in-Err g c =
    let said = c.in-Err.ensures in
    let early = early_by_fault g.W.Write.contents c.in-Err.fault _ _ _ _ (λ e. said.read (ap Err e)) (λ f e. said.line f (ap Err e)) (λ e. said.write (ap Err e)) (λ e. said.closed (ap Err e)) (λ e. said.memory (ap Err e)) in
    (_, run_told c.args.self.progress _ _ _ _ c.show.ensures said.progress c.end.ensures, inr (c.in-Err.fault, early, c.say_page_end.ensures))
