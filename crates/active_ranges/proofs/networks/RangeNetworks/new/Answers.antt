-- None is in order.
use Rattle.std.proofs.Common.{sym, subst}
use Rattle.active_ranges.proofs.Placed.{AreInOrder, none_in_order}
use Rattle.active_ranges.proofs.networks.RangeNetworks.new.Goals as goal

pub invariant_of-result : goal.invariant_of-result
invariant_of-result c = subst AreInOrder (sym c.new.ensures.items) none_in_order
