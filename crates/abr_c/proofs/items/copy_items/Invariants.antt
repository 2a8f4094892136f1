use Rattle.std.proofs.Common.{◌≡◌, ◌≤◌, length, take, drop, map}
use Rattle.abr_c.specs.CTypes.{item_of_entry}
use Rattle.abr_c.proofs.items.copy_items.Given as goal

abbrev pub invariant-loop-count : goal.invariant-loop-count
invariant-loop-count l = record {
  goes : (goal.iterator-loop-count).can_next l.items;
  ends : (goal.iterator-loop-count).is_finite l.items;
  so_far : take l.count l.out ≡ take l.count (map item_of_entry l.fn.items);
  rest : drop l.count l.out ≡ drop l.count l.fn.out;
  left : map item_of_entry l.items ≡ drop l.count (map item_of_entry l.fn.items);
  room : length l.out ≡ length l.fn.out;
  within : l.count ≤ length l.out;
  enough : l.count ≤ length l.fn.items;
}
