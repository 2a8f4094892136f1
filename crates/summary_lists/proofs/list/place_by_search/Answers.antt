use Rattle.std.proofs.Common.{Ordering, rules, subst}
use Rattle.std.specs.List.Sorted.{IsBinarySearchResult}
use Rattle.std.proofs.lemmas.List.Sorted.{answers_always}
use Rattle.ospf_types.specs.declared.key.Dest.{Dest}
use Rattle.ospf_types.proofs.DerivedOrders.{dest_cmp_is}
use Rattle.summary_lists.specs.declared.due.DueSummary.{DueSummary}
use Rattle.summary_lists.proofs.Placing.{searched}
use Rattle.summary_lists.proofs.list.place_by_search.Goals as goal

-- the closure gives the destination of each
pub returns : goal.returns
returns c =
    let d = c.args.dest.now in
    let r = c.binary_search_by_key.result in
    let list = c.args.list.now in
    let by_dest = c.binary_search_by_key.ensures.position (λ due. due.dest) (answers_always _ _ _ (λ f a r g called. search rules)) in
    searched list c.requires d r c.binary_search_by_key.ensures.bound
    (subst (λ (cmp : Dest → Dest → Ordering). IsBinarySearchResult (λ (due : DueSummary). cmp due.dest d) list r) dest_cmp_is by_dest)
