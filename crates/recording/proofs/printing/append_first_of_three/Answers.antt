use Rattle.recording.proofs.Pieces.{four_printed}
use Rattle.recording.proofs.printing.append_first_of_three.Goals as goal

pub returns-clause-text : goal.returns-clause-text
returns-clause-text c = four_printed _ _ _ c.args.router c.args.compat c.args.serial c.enabled_word-state.ensures c.in_ok-write.ensures.bytes
