-- An empty list is in order.
use Rattle.std.proofs.Common.{◌≡◌, List, [], sym, subst}
use Rattle.std.specs.List.Sorted.{IsStrictlySortedBy}
use Rattle.ospf_types.specs.declared.hop.NextHop.{NextHop}
use Rattle.ospf_types.specs.Hops.{hop_cmp}

pub empty_in_order : (xs : List NextHop) → xs ≡ [] → IsStrictlySortedBy hop_cmp xs
unfolding IsStrictlySortedBy
empty_in_order xs e = subst (IsStrictlySortedBy hop_cmp) (sym e) tt
