use Rattle.recording.proofs.Pieces.{two_printed}
use Rattle.recording.proofs.printing.append_first_of_one.Goals as goal

pub returns-clause-text : goal.returns-clause-text
returns-clause-text c = two_printed _ _ c.args.router c.in_ok-write.ensures.bytes
