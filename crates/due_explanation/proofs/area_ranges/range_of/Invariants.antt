-- No range up to here has the network.
use Rattle.std.proofs.Common.{take}
use Rattle.ospf_types.specs.Address.{Covers}
use Rattle.active_ranges.proofs.Searching.{HasNone}
use Rattle.due_explanation.proofs.area_ranges.range_of.Given as goal

abbrev pub invariant-loop-range : goal.invariant-loop-range
invariant-loop-range l = HasNone (λ r. Covers r.prefix l.network) (take l.range-index l.range-items)
