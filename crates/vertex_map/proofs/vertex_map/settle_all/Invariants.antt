use Rattle.std.proofs.Common.{◌≡◌, length}
use Rattle.vertex_map.specs.Values.{values_of}
use Rattle.vertex_map.proofs.vertex_map.settle_all.Given as goal

abbrev pub invariant-loop-index : goal.invariant-loop-index
invariant-loop-index g l = (values_of l.entries.entries ≡ values_of l.fn.entries.entries) × (length l.entries.entries ≡ length l.fn.entries.entries)
