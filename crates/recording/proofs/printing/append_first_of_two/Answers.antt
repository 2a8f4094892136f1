use Rattle.recording.proofs.Pieces.{three_printed}
use Rattle.recording.proofs.printing.append_first_of_two.Goals as goal

pub returns-clause-text : goal.returns-clause-text
returns-clause-text c = three_printed _ _ _ c.args.router c.args.compat c.enabled_word-state.ensures c.in_ok-write.ensures.bytes
