-- Lists of next hops in order that have the same ones are one.
use Rattle.std.proofs.Common.{◌≡◌, List}
use Rattle.std.specs.Prelude.{◌↔◌}
use Rattle.std.specs.List.{Contains}
use Rattle.std.specs.List.Sorted.{IsStrictlySortedBy}
use Rattle.ospf_types.specs.declared.hop.NextHop.{NextHop}
use Rattle.ospf_types.specs.Hops.{hop_cmp}
use Rattle.ospf_types.proofs.Orders.{hop_total, hop_exact}
use Rattle.ospf_types.proofs.OneBest.{same_list}

pub same_hops : (xs ys : List NextHop) → IsStrictlySortedBy hop_cmp xs → IsStrictlySortedBy hop_cmp ys → ((h : NextHop) → Contains xs h ↔ Contains ys h) → xs ≡ ys
same_hops = same_list hop_total hop_exact
