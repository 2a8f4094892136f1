use Rattle.std.proofs.Common.{◌≡◌, length, rules, arith}
use Rattle.std.specs.FinMap.{len}
use Rattle.std.specs.List.{filter}
use Rattle.std.proofs.lemmas.Fn.{filter_same}
use Rattle.prefix_index.proofs.Ordering.{has, as_many, others_out}
use Rattle.prefix_index.proofs.index.drop_others.Goals as goal

pub returns-clause-ordered : goal.returns-clause-ordered
returns-clause-ordered g c =
    others_out c.args.items.now c.args.order.now c.retain.new.self (filter_same _ (has c.args.items.now) _ (λ x b f h. (search rules, search rules)) _ _ c.retain.ensures.filtered) c.requires

pub returns-clause-few : goal.returns-clause-few
returns-clause-few g c =
    let left : c.retain.new.self.keys ≡ filter (has c.args.items.now) c.args.order.now.keys = filter_same _ (has c.args.items.now) _ (λ x b f h. (search rules, search rules)) _ _ c.retain.ensures.filtered in
    let many : length c.retain.new.self.keys ≡ len c.args.items.now = as_many c.args.items.now c.args.order.now c.retain.new.self left c.requires c.retain.ensures.was_ordered in
    omega (arith, many)
