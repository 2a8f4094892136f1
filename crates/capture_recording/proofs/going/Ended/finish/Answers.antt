use Rattle.capture_recording.proofs.Ends.{lines_written, lines_unwritten}
use Rattle.capture_recording.proofs.going.Ended.finish.Goals as goal

pub returns-in-Ok : goal.returns-in-Ok
returns-in-Ok g c rules beginning before after first told is =
    c.say_end.ensures rules beginning before after first _ told
    (lines_written rules beginning before after first _ told _ c.args.self is _ c.in-Ok.ensures.ok)

pub returns-in-Err : goal.returns-in-Err
returns-in-Err g c rules beginning before after first told is =
    lines_unwritten rules beginning before after first _ told _ c.args.self is _ c.in-Err.fault c.in-Err.ensures.err
