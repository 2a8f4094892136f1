use Rattle.recording.proofs.Pieces.{has_interface_printed}
use Rattle.recording.proofs.printing.append_has_interface.Goals as goal

pub returns-clause-text : goal.returns-clause-text
returns-clause-text c = has_interface_printed _ _ _ c.args.listed.0 c.args.listed.1 c.state_word-state.ensures c.in_ok-write.ensures.bytes
