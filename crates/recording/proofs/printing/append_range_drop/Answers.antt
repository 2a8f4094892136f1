use Rattle.recording.proofs.Pieces.{range_drop_printed}
use Rattle.recording.proofs.printing.append_range_drop.Goals as goal

pub returns-clause-text : goal.returns-clause-text
returns-clause-text c = range_drop_printed _ _ c.args.area c.args.prefix c.in_ok-write.ensures.bytes
