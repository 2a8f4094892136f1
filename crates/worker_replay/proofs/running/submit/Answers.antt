use Rattle.std.proofs.Common.{sym, ◌∙◌}
use Rattle.std.specs.Prelude.{Result}
use Rattle.std.specs.Global.{Vec}
use Rattle.event_state.specs.declared.event.Event.{Event}
use Rattle.engine.specs.declared.answer.Answer.{Answer}
use Rattle.engine.specs.declared.answer.Refused.{Refused}
use Rattle.worker_replay.proofs.Ran.{answered_dealt}
use Rattle.worker_replay.proofs.running.submit.Goals as goal

pub returns-in_ok-collect-in-Ok-clause-answered : goal.returns-in_ok-collect-in-Ok-clause-answered
returns-in_ok-collect-in-Ok-clause-answered g c =
    c.in_ok-collect-in-Ok.ensures c.args.engine.now c.args.events.items (sym c.args.events.ok.0 ∙ sym c.len-count.ensures)
    (answered_dealt c.args.engine.now (λ (list : Vec Event). list.items) (λ (list : Vec (Result Answer Refused)). list.items) c.args.events.items c.in_ok-lists.lists.items c.in-Ok.answers.items c.in_ok-lists.ensures.dealt
    c.in-Ok.ensures.answers)
