use Rattle.std.proofs.Common.{arith}
use Rattle.replay.proofs.Reading.{is_parsed}
use Rattle.replay.proofs.replaying.parse_bytes.Goals as goal

pub returns-in-Ok-clause-recording : goal.returns-in-Ok-clause-recording
returns-in-Ok-clause-recording c = is_parsed _ _ c.in-Ok.ensures.text (omega arith)
