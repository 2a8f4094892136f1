use Rattle.std.proofs.Common.{inr}
use Rattle.replay.specs.declared.buffer.PrintError.TheVariants as stop
use Rattle.replay.proofs.Advance.{shows_none}
use Rattle.replay.proofs.Ends.{output_of, part_of, replays, replays_part, no_line, stop_of_write, stop_of_closed, stop_of_memory, stopped_by}
use Rattle.replay.proofs.replaying.replay_one.Goals as goal

pub returns-in_err-recording-clause-progress : goal.returns-in_err-recording-clause-progress
returns-in_err-recording-clause-progress g c = shows_none _ _

pub returns-in_default-clause-progress : goal.returns-in_default-clause-progress
returns-in_default-clause-progress g c = shows_none _ _

pub returns-in-Ok-print-clause-ok : goal.returns-in-Ok-print-clause-ok
returns-in-Ok-print-clause-ok g c =
    let opened = c.in-Ok.ensures in
    replays _ _ _ _ _ _ c.in_ok-recording.ensures.recording (output_of _ _ _ _ _ _ _ opened.version opened.base opened.lines c.in-Ok-print.ensures.ok)

pub returns-in-Err-clause-line : goal.returns-in-Err-clause-line
returns-in-Err-clause-line g c f h = absurd (no_line c.in-Err.stop _ f c.fault_of.ensures (cc h))

pub returns-in-Err-clause-write : goal.returns-in-Err-clause-write
returns-in-Err-clause-write g c h =
    let opened = c.in-Ok.ensures in
    replays_part stop.Write _ _ _ _ _ _ c.in_ok-recording.ensures.recording
    (part_of stop.Write _ _ _ _ _ _ _ opened.version opened.base opened.lines
    (stopped_by c.in-Err.stop stop.Write _ _ _ _ (stop_of_write c.in-Err.stop _ c.fault_of.ensures (cc h)) c.in-Err.ensures.err))

pub returns-in-Err-clause-closed : goal.returns-in-Err-clause-closed
returns-in-Err-clause-closed g c h =
    let opened = c.in-Ok.ensures in
    replays_part stop.Closed _ _ _ _ _ _ c.in_ok-recording.ensures.recording
    (part_of stop.Closed _ _ _ _ _ _ _ opened.version opened.base opened.lines
    (stopped_by c.in-Err.stop stop.Closed _ _ _ _ (stop_of_closed c.in-Err.stop _ c.fault_of.ensures (cc h)) c.in-Err.ensures.err))

pub returns-in-Err-clause-memory : goal.returns-in-Err-clause-memory
returns-in-Err-clause-memory g c h =
    let opened = c.in-Ok.ensures in
    inr (replays_part stop.Memory _ _ _ _ _ _ c.in_ok-recording.ensures.recording
    (part_of stop.Memory _ _ _ _ _ _ _ opened.version opened.base opened.lines
    (stopped_by c.in-Err.stop stop.Memory _ _ _ _ (stop_of_memory c.in-Err.stop _ c.fault_of.ensures (cc h)) c.in-Err.ensures.err)))
