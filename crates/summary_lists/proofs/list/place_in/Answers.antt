-- The front of the list is the destination, or comes after it.
use Rattle.std.proofs.Common.{◌≡◌, sym, ◌∙◌}
use Rattle.std.specs.declared.cmp.Ordering.TheVariants.{Equal, Greater}
use Rattle.ospf_types.specs.Keys.{dest_cmp}
use Rattle.ospf_types.proofs.DerivedOrders.{dest_cmp_is}
use Rattle.summary_lists.proofs.Placing.{is_first, is_past}
use Rattle.summary_lists.proofs.list.place_in.Goals as goal

pub returns-in-Equal-clause-found : goal.returns-in-Equal-clause-found
returns-in-Equal-clause-found c =
    let x = c.in-Some.first.now in
    let equal : dest_cmp x.dest c.args.dest.now ≡ Equal = (λ i. sym dest_cmp_is i x.dest c.args.dest.now) ∙ sym c.in-Equal.ensures in
    is_first c.args.list.now c.requires c.args.dest.now x (sym c.in-Some.ensures.value) equal

pub returns-in-Greater-clause-absent : goal.returns-in-Greater-clause-absent
returns-in-Greater-clause-absent c =
    let x = c.in-Some.first.now in
    let greater : dest_cmp x.dest c.args.dest.now ≡ Greater = (λ i. sym dest_cmp_is i x.dest c.args.dest.now) ∙ sym c.in-Greater.ensures in
    is_past c.args.list.now c.requires c.args.dest.now x (sym c.in-Some.ensures.value) greater
