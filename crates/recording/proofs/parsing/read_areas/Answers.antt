use Rattle.std.proofs.Common.{List, ℕ, refl, sym, subst, inl}
use Rattle.recording.specs.Faults.{IsMemoryAt}
use Rattle.recording.specs.Left.{HasHeaderAt, left_in}
use Rattle.recording.proofs.HeaderSteps.{header_begins, header_last}
use Rattle.recording.proofs.Parts.{parts_full}
use Rattle.recording.proofs.parsing.read_areas.Goals as goal

pub loop-header-init : goal.loop-header-init
loop-header-init c =
    let begun = header_begins c.args.setting c.requires.1 c.requires.0 in
    (subst (HasHeaderAt c.args.version c.args.lines) (sym c.new-header.ensures) begun, refl)

pub returns-in-Err-clause-fault : goal.returns-in-Err-clause-fault
returns-in-Err-clause-fault c =
    let at = c.loop-header.invariant in
    let left = c.loop-header.left in
    inl (refl, subst (λ (text : List ℕ). IsMemoryAt text left.taken) at.1 (header_last at.0 (parts_full (left_in left))))
