-- Ranges of the routes are as defined.
use Rattle.std.proofs.lemmas.Result.{on_ok_weaker}
use Rattle.active_ranges.proofs.Right.{ranges_right}
use Rattle.active_ranges.proofs.active.ActiveRanges.update.Goals as goal

pub returns-else-is_err-clause-right : goal.returns-else-is_err-clause-right
returns-else-is_err-clause-right c =
    on_ok_weaker c.update_parts-prefixes.result (λ kept s configured right. ranges_right s c.args.areas.now c.args.intra.now.entries c.update_parts-prefixes.new.self configured right.entries kept) c.update_parts-prefixes.ensures.kept
