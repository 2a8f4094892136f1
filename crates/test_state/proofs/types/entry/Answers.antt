use Rattle.std.proofs.Common.{sym, subst}
use Rattle.std.specs.List.Sorted.{IsStrictlySortedBy}
use Rattle.ospf_types.specs.Hops.{path_cmp}
use Rattle.test_state.proofs.types.entry.Goals as goal

pub new-requires : goal.new-requires
unfolding IsStrictlySortedBy
new-requires c = subst (IsStrictlySortedBy path_cmp) (sym c.in_ok-from_slice.ensures.ok) (tt, tt)
