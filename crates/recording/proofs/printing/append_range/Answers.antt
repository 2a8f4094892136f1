use Rattle.recording.proofs.Pieces.{range_printed}
use Rattle.recording.proofs.printing.append_range.Goals as goal

pub returns-clause-text : goal.returns-clause-text
returns-clause-text c = range_printed _ _ _ c.args.area c.args.range c.advertise_word-shown.ensures c.in_ok-write.ensures.bytes
