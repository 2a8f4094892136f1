use Rattle.std.proofs.Common.{◌≡◌, Err, ap}
use Rattle.recording.specs.declared.fault.LineFault.{LineFault}
use Rattle.replay.specs.declared.fault.ReplayFault.{ReplayFault}
use Rattle.replay.specs.declared.fault.ReplayFault.TheVariants as replay_fault
use Rattle.replay.specs.declared.buffer.PrintError.{PrintError}
use Rattle.replay.specs.declared.buffer.PrintError.TheVariants as stop
use Rattle.replay.specs.Stops.{fault_of}
use Rattle.replay.proofs.Ends.{stop_of_write, stop_of_closed, stop_of_memory}
use Rattle.worker_replay.proofs.Whole.{replays, replays_part, run_whole, or_else}
use Rattle.worker_replay.proofs.replaying.replay_many.Goals as goal

pub returns-in-Ok-write-clause-ok : goal.returns-in-Ok-write-clause-ok
returns-in-Ok-write-clause-ok g c = replays _ _ _ _ _ _ _ c.version-version.ensures.value _ _ c.in-Ok.ensures.recording c.in_ok-printed.ensures.run c.in-Ok-write.ensures.ok

-- the reason that ends the writing is not a fault of a line
no_line : (why : PrintError) (given : ReplayFault) (f : LineFault) → given ≡ fault_of why → given ≡ replay_fault.Line f → ⊥
no_line stop.Write given f is h = cc
no_line stop.Closed given f is h = cc
no_line stop.Memory given f is h = cc

pub returns-clause-line : goal.returns-clause-line
returns-clause-line g c f h = absurd (no_line c.in-Err-write.stop _ f c.fault_of.ensures (cc h))

pub returns-clause-write : goal.returns-clause-write
returns-clause-write g c h =
    replays_part _ _ _ _ _ _ _ c.version-version.ensures.value _ _ c.in-Ok.ensures.recording c.in_ok-printed.ensures.run stop.Write
    (c.in-Err-write.ensures.write (run_whole _ _ _ _ c.in_ok-printed.ensures.run) (ap Err (stop_of_write c.in-Err-write.stop _ c.fault_of.ensures (cc h))))

pub returns-clause-closed : goal.returns-clause-closed
returns-clause-closed g c h =
    replays_part _ _ _ _ _ _ _ c.version-version.ensures.value _ _ c.in-Ok.ensures.recording c.in_ok-printed.ensures.run stop.Closed
    (c.in-Err-write.ensures.closed (run_whole _ _ _ _ c.in_ok-printed.ensures.run) (ap Err (stop_of_closed c.in-Err-write.stop _ c.fault_of.ensures (cc h))))

pub returns-clause-memory : goal.returns-clause-memory
returns-clause-memory g c h =
    or_else (replays_part _ _ _ _ _ _ _ c.version-version.ensures.value _ _ c.in-Ok.ensures.recording c.in_ok-printed.ensures.run stop.Memory)
    (c.in-Err-write.ensures.memory (run_whole _ _ _ _ c.in_ok-printed.ensures.run) (ap Err (stop_of_memory c.in-Err-write.stop _ c.fault_of.ensures (cc h))))
