use Rattle.std.proofs.Common.{◌∙◌, ◌++◌, ◌/◌, ◌%◌, codes, ap}
use Rattle.std.proofs.Output.{has_written_of_eq}
use Rattle.std.specs.Prelude.{decimal}
use Rattle.std.specs.Fmt.{styled_decimal}
use Rattle.capture_recording.proofs.PaddedDigits.{time_written}
use Rattle.capture_recording.proofs.place.TimeFieldDisplay.fmt.Goals as goal

pub returns-clause-writes : goal.returns-clause-writes
returns-clause-writes g c plain ok =
    let time = c.args.self.now.0 in
    let written = ap (λ s. decimal (time / 1000000000) ++ (codes "." ++ styled_decimal s (time % 1000000000))) c.laid_out.ensures ∙ time_written time in
    has_written_of_eq _ _ _ _ _ written (c.write.ensures.writes plain ok)
