use Rattle.std.proofs.Common.{◌∙◌, ℕ, List, Some, inl, ap, subst}
use Rattle.recording.specs.Recordings.{RecordingValue}
use Rattle.capture_recording.specs.Rules.{Rules}
use Rattle.capture_recording.specs.declared.capturing.Preamble.TheVariants.{Given}
use Rattle.capture_recording.specs.Outputs.{areas_in, RuledOutcome}
use Rattle.capture_recording.proofs.Ends.{none_recorded}
use Rattle.capture_recording.proofs.capturing.record_known.Goals as goal

pub returns-in-Ok : goal.returns-in-Ok
returns-in-Ok g c text only =
    let areas = areas_in c.args.recording.now in (
      Some areas,
      inl (λ other is. ap (λ (r : RecordingValue). Some (areas_in r)) (only other is)),
      subst (λ (rules : Rules). RuledOutcome rules (Given c.args.front) (g.R.Read.remaining c.args.input.now) (g.R.Read.remaining c.record_behind.new.input) (g.W.Write.contents c.args.out.now) (g.W.Write.contents c.record_behind.new.out) (g.F.Write.contents c.args.faults.now) (g.F.Write.contents c.record_behind.new.faults) c.record_behind.result)
          (c.with_areas.ensures ∙ ap (λ (ids : List ℕ). let rules : Rules = record { options = c.args.start.options; areas = Some ids } in rules) c.in-Ok.ensures)
          (c.record_behind.ensures (c.args.recording.now, text)),
    )

pub returns-in-Err : goal.returns-in-Err
returns-in-Err g c text only = (
  Some (areas_in c.args.recording.now),
  inl (λ other is. ap (λ (r : RecordingValue). Some (areas_in r)) (only other is)),
  none_recorded _ (Given c.args.front) _ _ _,
)
