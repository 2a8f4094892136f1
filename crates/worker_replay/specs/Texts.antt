-- The printed text of the fault of a replay over several workers.
use Rattle.std.specs.Prelude.{ℕ, List, codes}
use Rattle.replay.specs.Texts.{replay_fault_text}
use Rattle.worker_replay.specs.declared.fault.WorkerReplayFault.{WorkerReplayFault}
use Rattle.worker_replay.specs.declared.fault.WorkerReplayFault.TheVariants as fault

abbrev pub many_fault_text : WorkerReplayFault → List ℕ
many_fault_text (fault.Replay f) = replay_fault_text f
many_fault_text fault.Spawn = codes "31 Spawn"
many_fault_text fault.Place = codes "46 Place"
many_fault_text fault.NoEntry = codes "no entry"
