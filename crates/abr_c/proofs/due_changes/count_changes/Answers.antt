use Rattle.std.proofs.Common.{sym, arith}
use Rattle.abr_c.proofs.Flat.{counted_more}
use Rattle.abr_c.proofs.due_changes.count_changes.Goals as goal

pub loop-place-preserved : goal.loop-place-preserved
loop-place-preserved c =
    counted_more c.args.changes.now c.loop-place.count c.loop-place.place c.in-Some.field-0-0 c.in-Some.metrics.now (sym c.in-Some.ensures) c.loop-place.invariant
    c.saturating_add-count.result c.saturating_add-count.ensures (omega arith)
