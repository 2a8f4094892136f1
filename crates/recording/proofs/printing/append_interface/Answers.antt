use Rattle.recording.proofs.Pieces.{interface_printed}
use Rattle.recording.proofs.printing.append_interface.Goals as goal

pub returns-clause-text : goal.returns-clause-text
returns-clause-text c =
    interface_printed _ _ _ c.args.id c.args.interface.area c.args.interface.address c.args.interface.peer c.args.interface.up c.state_word-state.ensures c.in_ok-write.ensures.bytes
