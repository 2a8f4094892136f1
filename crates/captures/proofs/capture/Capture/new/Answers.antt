use Rattle.std.proofs.Common.{List, sym, ap, subst}
use Rattle.captures.specs.declared.front.CaptureFormat.TheVariants.{Unread}
use Rattle.captures.specs.declared.interface.CaptureInterface.{CaptureInterface}
use Rattle.captures.specs.Reading.{CaptureState}
use Rattle.captures.specs.Runs.{ReadsFiles}
use Rattle.captures.specs.RunsOfBlocks.{ReadsSections}
use Rattle.captures.proofs.Runs.{reads_files}
use Rattle.captures.proofs.RunsOfBlocks.{reads_sections}
use Rattle.captures.proofs.capture.Capture.new.Goals as goal

pub returns-clause-files : goal.returns-clause-files
returns-clause-files c =
    let seen : List CaptureInterface → CaptureState = λ items. record { format = Unread; interfaces = items } in
    subst ReadsFiles (ap seen (sym c.new.ensures.items)) reads_files

pub returns-clause-sections : goal.returns-clause-sections
returns-clause-sections c =
    let seen : List CaptureInterface → CaptureState = λ items. record { format = Unread; interfaces = items } in
    subst ReadsSections (ap seen (sym c.new.ensures.items)) reads_sections
