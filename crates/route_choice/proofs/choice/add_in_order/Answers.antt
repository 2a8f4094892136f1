use Rattle.ospf_types.proofs.InOrder.{has_also_inserted, searchable, sorted_insert}
use Rattle.route_choice.proofs.choice.add_in_order.Goals as goal

pub returns-in_ok-insert-in-Err-clause-added : goal.returns-in_ok-insert-in-Err-clause-added
returns-in_ok-insert-in-Err-clause-added g c =
    rw c.in_ok-insert-in-Err.ensures.ok (has_also_inserted c.args.items.now.items c.in-Err.place c.args.item)

pub returns-in_ok-insert-in-Err-clause-in_order : goal.returns-in_ok-insert-in-Err-clause-in_order
returns-in_ok-insert-in-Err-clause-in_order g c = λ sorted.
    let xs = c.args.items.now.items in
    let total = g.met.X.Ord.total in
    let position = rw c.as_slice.ensures at c.in-Err.ensures.position in
    rw c.in_ok-insert-in-Err.ensures.ok (sorted_insert total xs c.in-Err.place c.args.item sorted (position (searchable total xs c.args.item sorted)))
