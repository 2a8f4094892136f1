-- Routes of the inputs are as defined.
use Rattle.std.proofs.lemmas.Result.{on_ok_weaker}
use Rattle.external.proofs.Right.{external_right}
use Rattle.external.proofs.external.External.update.Goals as goal

pub returns-else-is_err-clause-right : goal.returns-else-is_err-clause-right
returns-else-is_err-clause-right c =
    on_ok_weaker c.update_parts-dests.result (λ kept s are. external_right s c.args.inputs.now c.update_parts-dests.new.self kept are) c.update_parts-dests.ensures.kept
