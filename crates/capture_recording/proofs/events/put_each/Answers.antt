use Rattle.capture_recording.specs.Events.{recorded_events}
use Rattle.capture_recording.proofs.Gained.{appended_item, one_more}
use Rattle.capture_recording.proofs.events.put_each.Goals as goal

pub loop-one-preserved : goal.loop-one-preserved
loop-one-preserved c = (
  one_more c.loop-one.yielded _ _ _ _ c.loop-one.invariant.0 c.in-Some.ensures.steps.0,
  appended_item recorded_events _ _ _ c.loop-one.yielded c.in-Some.one c.loop-one.invariant.1 c.in_ok-put_recorded.ensures,
)
