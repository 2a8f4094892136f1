use Rattle.explained_replay.proofs.Printed.{lost_printed}
use Rattle.explained_replay.proofs.text_lines.put_lost.Goals as goal

pub returns : goal.returns
returns c = lost_printed _ _ _ _ _ _ c.args.candidate.now c.in_ok-push_str.ensures.bytes c.in_ok-put_offered.ensures c.in_ok-writeln.ensures.bytes c.step_of-step.ensures c.reason_of-reason.ensures
