use Rattle.recording.proofs.Pieces.{range_set_printed}
use Rattle.recording.proofs.printing.append_range_set.Goals as goal

pub returns-clause-text : goal.returns-clause-text
returns-clause-text c = range_set_printed _ _ _ c.args.area (record { prefix = c.args.prefix; advertise = c.args.advertise }) c.advertise_word-shown.ensures c.in_ok-write.ensures.bytes
