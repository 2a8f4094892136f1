use Rattle.std.specs.List.Sorted.{IsStrictlySortedBy}
use Rattle.abr_rows.proofs.lines.samples.fill.Goals as goal

pub new-requires : goal.new-requires
unfolding IsStrictlySortedBy
new-requires c = rw c.in_ok-from_slice.ensures.ok (tt, tt)
