use Rattle.std.proofs.Common.{sym, ap, ◌∙◌}
use Rattle.event_state.specs.BaseFaults.{unfit_fault}
use Rattle.event_state.proofs.Doubles.{ordered_once}
use Rattle.event_state.proofs.Faultless.{only_unfit}
use Rattle.event_state.proofs.base_checks.fault_in_ordered.Goals as goal

pub returns : goal.returns
returns c =
    let b = c.args.base.now in
    c.as_fault.ensures ∙ ap unfit_fault c.entry_fault_in.ensures ∙ only_unfit c.args.limits b (sym c.fault_in.ensures ∙ c.in_default.is) (ordered_once b c.requires)
