use Rattle.std.proofs.Common.{◌≡◌, ap, arith, Err, inl, inr, refl}
use Rattle.abr_cli.proofs.Ended.{by_fault, many_ends}
use Rattle.abr_cli.proofs.Shown.{run_told}
use Rattle.abr_cli.proofs.replaying.run_with.Goals as goal

pub returns-then-workers-gt1-clause-end : goal.returns-then-workers-gt1-clause-end
returns-then-workers-gt1-clause-end g c =
    let said = c.replay_many.ensures in
    many_ends g.W.Write.contents c.args.options.workers c.replay_many.result _ _ _ _ _ c.if-workers-gt1.true said.ok said.read said.line said.spawn said.place said.no_entry said.write said.closed said.memory

pub returns-then-workers-gt1-clause-progress : goal.returns-then-workers-gt1-clause-progress
returns-then-workers-gt1-clause-progress g c = inr (c.if-workers-gt1.true, refl)

pub returns-in-Ok-clause-end : goal.returns-in-Ok-clause-end
returns-in-Ok-clause-end g c = let one : c.args.options.workers ≡ 1 = omega (arith, c.requires, c.if-workers-gt1.false) in inl (one, c.in-Ok.ensures.ok)

pub returns-in-Ok-clause-progress : goal.returns-in-Ok-clause-progress
returns-in-Ok-clause-progress g c =
    let one : c.args.options.workers ≡ 1 = omega (arith, c.requires, c.if-workers-gt1.false) in inl (one, run_told c.args.options.printing.progress _ _ _ _ c.show.ensures c.replay_one-ended.ensures.progress c.end.ensures)

pub returns-in-Err-clause-end : goal.returns-in-Err-clause-end
returns-in-Err-clause-end g c =
    let one : c.args.options.workers ≡ 1 = omega (arith, c.requires, c.if-workers-gt1.false) in
    let said = c.in-Err.ensures in
    let held = g.W.Write.contents in
    by_fault c.args.options.workers c.in-Err.fault _ _ _ _ _
    (λ e. ap held (said.read (ap Err e)))
    (λ f e. let h = said.line f (ap Err e) in (ap held h.0, h.1))
    (λ e. inl (one, said.write (ap Err e)))
    (λ e. inl (one, said.closed (ap Err e)))
    (λ e. elim (said.memory (ap Err e)) [ inl h ↦ inl (ap held h) | inr h ↦ inr (inl (one, h)) ])

pub returns-in-Err-clause-progress : goal.returns-in-Err-clause-progress
returns-in-Err-clause-progress g c =
    let one : c.args.options.workers ≡ 1 = omega (arith, c.requires, c.if-workers-gt1.false) in inl (one, run_told c.args.options.printing.progress _ _ _ _ c.show.ensures c.replay_one-ended.ensures.progress c.end.ensures)
