use Rattle.abr_cli.proofs.dispatch.Invocation.run.Goals as goal

pub returns-in-Ok : goal.returns-in-Ok
returns-in-Ok g c = rw c.in-Ok.is (record { command = c.asked_of-asked.result; is_asked = c.asked_of-asked.ensures.asked; is_told = c.do_asked.ensures })
