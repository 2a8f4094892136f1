use Rattle.std.proofs.Common.{Some}
use Rattle.capture_recording.specs.declared.capturing.Preamble.TheVariants.{Router}
use Rattle.capture_recording.specs.Texts.{notes_of}
use Rattle.capture_recording.proofs.Ends.{lacking_said, nothing_written}
use Rattle.capture_recording.proofs.Said.{behind_none}
use Rattle.capture_recording.proofs.going.Ended.finish_without.Goals as goal

pub returns-in-Ok : goal.returns-in-Ok
returns-in-Ok g c rules router before after old told is =
    let recorded = is.through.recorded in
    lacking_said rules router before after told _ _ old c.args.self c.args.fault is _ _ (c.say.ensures.said told (notes_of recorded.steps) recorded.said)
    (behind_none _ _ _ recorded.none c.in-Ok.ensures)
    _ _ c.unless_silent.ensures c.fault_lacking.ensures

pub returns : goal.returns
returns g c rules router before after old told is = nothing_written rules (Some router) (Router router) before after told _ old c.args.self is.through
