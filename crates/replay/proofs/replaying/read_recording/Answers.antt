use Rattle.std.proofs.lemmas.Result.{IfOk-weaker}
use Rattle.replay.proofs.Reading.{is_read}
use Rattle.replay.proofs.replaying.read_recording.Goals as goal

pub returns-in-Ok-clause-recording : goal.returns-in-Ok-clause-recording
returns-in-Ok-clause-recording g c =
    IfOk-weaker _ _ _ (λ r is. is_read _ _ _ _ c.as_slice.result.now r c.new-bytes.ensures.items c.as_slice.ensures.value c.in-Ok.ensures.none_lost c.in-Ok.ensures.end is) c.parse_bytes.ensures.recording
