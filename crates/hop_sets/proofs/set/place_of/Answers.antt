use Rattle.std.proofs.Common.{subst}
use Rattle.std.specs.List.Sorted.{IsBinarySearchResult}
use Rattle.std.specs.declared.cmp.Ordering.{Ordering}
use Rattle.ospf_types.specs.declared.hop.NextHop.{NextHop}
use Rattle.ospf_types.proofs.Orders.{hop_total, hop_exact}
use Rattle.ospf_types.proofs.Paths.{hop_cmp_is}
use Rattle.hop_sets.proofs.Places.{found, placed}
use Rattle.hop_sets.proofs.set.place_of.Goals as goal

pub returns-clause-found : goal.returns-clause-found
returns-clause-found c =
    let xs = c.args.items.now in
    let r = c.binary_search.result in
    let answer = subst (λ (cmp : NextHop → NextHop → Ordering). IsBinarySearchResult (λ y. cmp y c.args.hop) xs r) hop_cmp_is c.binary_search.ensures.position in
    found hop_total hop_exact xs c.args.hop c.requires r c.binary_search.ensures.bound answer

pub returns-clause-in_order : goal.returns-clause-in_order
returns-clause-in_order c =
    let xs = c.args.items.now in
    let r = c.binary_search.result in
    let answer = subst (λ (cmp : NextHop → NextHop → Ordering). IsBinarySearchResult (λ y. cmp y c.args.hop) xs r) hop_cmp_is c.binary_search.ensures.position in
    placed hop_total hop_exact xs c.args.hop c.requires r answer
