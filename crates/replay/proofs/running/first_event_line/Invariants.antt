use Rattle.std.proofs.Common.{◌≡◌, ◌+◌, length, drop}
use Rattle.std.specs.List.{flat_map}
use Rattle.recording.specs.Recordings.{area_forms, has_forms}
use Rattle.replay.specs.Lines.{first_number}
use Rattle.replay.proofs.running.first_event_line.Given as goal

-- the number, and the areas that are left
abbrev pub invariant-loop-area : goal.invariant-loop-area
invariant-loop-area l = l.number + length (flat_map area_forms (drop l.area-index l.fn.base.config.areas)) + length (has_forms l.fn.base) ≡ first_number l.fn.version l.fn.base
