use Rattle.capture_recording.specs.Finishing.{router_of}
use Rattle.capture_recording.specs.Gathering.{config_of}
use Rattle.capture_recording.specs.Texts.{notes_of}
use Rattle.capture_recording.proofs.Ends.{end_said, end_unsaid}
use Rattle.capture_recording.proofs.Said.{behind_none}
use Rattle.capture_recording.proofs.going.Ended.say_end.Goals as goal

pub returns-in-Ok : goal.returns-in-Ok
returns-in-Ok g c rules beginning before after first new told is =
    let recorded = is.through.recorded in
    end_said rules beginning before after first new told _ c.args.self is _ _ _ (c.say.ensures.said told (notes_of recorded.steps) recorded.said)
    (behind_none _ _ _ recorded.none (c.in-Ok.ensures (config_of (router_of beginning) recorded.steps) recorded.gathered.config))
    _ _ c.unless_silent.ensures c.result-answer.ensures

pub returns : goal.returns
returns g c rules beginning before after first new told is = end_unsaid rules beginning before after first new told _ c.args.self is
