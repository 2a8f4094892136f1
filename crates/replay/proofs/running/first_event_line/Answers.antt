use Rattle.std.proofs.Common.{◌+◌, ℕ, length, ap, ◌∙◌}
use Rattle.std.specs.List.{flat_map}
use Rattle.recording.specs.Recordings.{area_forms, has_forms}
use Rattle.replay.proofs.Reading.{front_length}
use Rattle.replay.proofs.running.first_event_line.Goals as goal

pub loop-area-init : goal.loop-area-init
loop-area-init c =
    ap (λ (n : ℕ). (n + 1) + length (flat_map area_forms c.args.base.now.config.areas) + length (has_forms c.args.base.now)) c.first_lines-number.ensures.value ∙ front_length c.args.version c.args.base.now
