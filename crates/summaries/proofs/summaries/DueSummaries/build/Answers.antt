use Rattle.std.proofs.Common.{refl, sym, ap}
use Rattle.summaries.specs.Inputs.{SummaryInputsValue}
use Rattle.summaries.proofs.Right.{summaries_right}
use Rattle.summaries.proofs.Unserved.{unserved, unserved_differ}
use Rattle.summaries.proofs.summaries.DueSummaries.build.Goals as goal

-- before, no area was active
pub plan-requires : goal.plan-requires
plan-requires c =
    let v = c.args.inputs.now in
    record { before = (unserved v, c.in_ok-summaries.ensures (unserved v) (sym (ap (λ (w : SummaryInputsValue). w.areas) c.inputs.view_is)) refl, unserved_differ v) }

pub returns-clause-right : goal.returns-clause-right
returns-clause-right c s are = summaries_right s c.args.inputs.now c.carry_out.new.self are (c.in_ok-plan.ensures.kept c.carry_out.new.self c.carry_out.ensures.carried)
