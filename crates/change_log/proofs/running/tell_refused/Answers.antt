use Rattle.change_log.proofs.RunSteps.{refusal_told}
use Rattle.change_log.proofs.running.tell_refused.Goals as goal

pub returns-clause-ok : goal.returns-clause-ok
returns-clause-ok g c =
    refusal_told c.args.at.now.wanted c.args.at.now.answers c.args.at.now.number _ _ _ _ _ c.args.refusal c.if-not-at.false c.in_ok-put_refused.ensures c.in_ok-flush_if_full.ensures.ok
