use Rattle.std.proofs.Common.{ℕ, List, inr, sym, subst, ◌∙◌}
use Rattle.recording.specs.declared.fault.Fault.TheVariants as fault
use Rattle.recording.specs.Faults.{IsFirstFault}
use Rattle.recording.proofs.HeaderSteps.{header_config, lines_begin}
use Rattle.recording.proofs.parsing.parse_text.Goals as goal

pub returns-in-Some-clause-fault : goal.returns-in-Some-clause-fault
returns-in-Some-clause-fault c =
    let read = c.in_ok-base.ensures in
    let same = read.text ∙ c.in_ok-setting.ensures.text ∙ c.in_ok-router.ensures.text ∙ c.in_ok-version.ensures.text in
    inr (subst (λ (text : List ℕ). IsFirstFault text c.in_ok-base.lines.taken (fault.Config c.in-Some.fault)) same (header_config read.read read.end c.in-Some.fault (sym c.fault_in.ensures ∙ c.in-Some.is)))

pub read_base-requires-clause-read : goal.read_base-requires-clause-read
read_base-requires-clause-read c =
    let read = c.in_ok-base.ensures in lines_begin read.read read.end (sym c.fault_in.ensures ∙ c.in_default.is)
