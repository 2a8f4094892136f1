-- Routes of the inputs are as defined.
use Rattle.std.proofs.lemmas.Result.{on_ok_weaker}
use Rattle.inter.proofs.Right.{inter_right}
use Rattle.inter.proofs.inter.Inter.update.Goals as goal

pub returns-else-is_err-clause-right : goal.returns-else-is_err-clause-right
returns-else-is_err-clause-right c =
    on_ok_weaker c.update_parts-dests.result (λ kept s are. inter_right s c.args.inputs.now are c.update_parts-dests.new.self kept) c.update_parts-dests.ensures.kept
