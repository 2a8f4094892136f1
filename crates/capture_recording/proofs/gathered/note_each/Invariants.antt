use Rattle.std.proofs.Common.{take}
use Rattle.std.specs.List.{fold}
use Rattle.captured_config.specs.Facts.{AreFacts}
use Rattle.captured_config.specs.Lsas.{Captured}
use Rattle.capture_recording.specs.Folds.{with_installed}
use Rattle.capture_recording.proofs.gathered.note_each.Given as goal

abbrev pub invariant-loop-one : goal.invariant-loop-one
invariant-loop-one l = (c : Captured) → AreFacts c l.initial.config → AreFacts (fold (with_installed l.fn.area) c (take l.one-index l.fn.recorded)) l.config
