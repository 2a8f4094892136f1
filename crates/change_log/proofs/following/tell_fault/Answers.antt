use Rattle.change_log.specs.Lines.{AtFault}
use Rattle.change_log.proofs.Shown.{line_shown}
use Rattle.change_log.proofs.Texts.{change_whole}
use Rattle.change_log.proofs.following.tell_fault.Goals as goal

pub returns-clause-ok : goal.returns-clause-ok
returns-clause-ok g c = line_shown _ _ _ _ _ _ (change_whole c.args.at.now.wanted.format c.args.at.now.number (AtFault c.args.fault)) c.in_ok-put_fault.ensures c.in_ok-flush_if_full.ensures.ok
