use Rattle.std.proofs.Common.{refl}
use Rattle.capture_recording.specs.declared.capturing.Preamble.TheVariants.{Given}
use Rattle.capture_recording.proofs.Ends.{given_begun, given_unwritten}
use Rattle.capture_recording.proofs.Outcomes.{outcome_streamed}
use Rattle.capture_recording.proofs.capturing.record_behind.Goals as goal

pub returns-in-Err : goal.returns-in-Err
returns-in-Err g c text =
    given_unwritten c.args.start (Given c.args.front) c.args.front.now (λ steps. (refl, text)) _ _ _ _ _ c.in-Err.ensures.fault c.in-Err.ensures.err

pub returns-in-Ok-stream : goal.returns-in-Ok-stream
returns-in-Ok-stream g c text =
    let streamed = c.in-Ok-stream.ensures.ok in
    c.finish.ensures c.args.start (Given c.args.front) _ _ _ _
    (given_begun c.args.start (Given c.args.front) c.args.front.now (λ steps. (refl, text)) _ _ _ _ _ _ _ _ streamed.0 c.in-Ok.ensures.ok streamed.1 streamed.2)

pub returns-in-Err-stream : goal.returns-in-Err-stream
returns-in-Err-stream g c text =
    outcome_streamed c.args.start (Given c.args.front) _ _ _ _ _ _ _ c.args.front.now (λ steps. (refl, text)) c.in-Ok.ensures.ok _ c.in-Err-stream.ensures.err
