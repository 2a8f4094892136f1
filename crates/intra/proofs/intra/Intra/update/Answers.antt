-- Routes of the inputs are as defined.
use Rattle.std.proofs.lemmas.Result.{on_ok_weaker}
use Rattle.intra.proofs.Right.{intra_right}
use Rattle.intra.proofs.intra.Intra.update.Goals as goal

pub returns-else-is_err-clause-right : goal.returns-else-is_err-clause-right
returns-else-is_err-clause-right c =
    on_ok_weaker c.update_parts-dests.result (λ kept s are. intra_right s c.args.inputs.now c.update_parts-dests.new.self are kept) c.update_parts-dests.ensures.kept
