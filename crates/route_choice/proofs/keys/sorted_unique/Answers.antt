-- The keys, sorted, without duplicates.
use Rattle.std.proofs.Common.{Ordering, subst}
use Rattle.std.specs.List.Sorted.{IsSorted}
use Rattle.route_choice.proofs.KeyLaws.{key_order}
use Rattle.route_choice.proofs.SortedOnce.{strictly, same_items}
use Rattle.route_choice.proofs.keys.sorted_unique.Goals as goal

pub returns-clause-in_order : goal.returns-clause-in_order
returns-clause-in_order g c =
    let keys = key_order g.met.K.ResultKey.ordered g.met.K.Ord.total g.met.K.ResultKey.exact g.met.K.Ord.matches_eq in
    strictly keys.total keys.exact keys.ties c.args.keys.items c.sort_unstable.new.self.items c.dedup.new.self.items c.sort_unstable.ensures.permutation
    (subst (λ (R : g.row.K.Denot → g.row.K.Denot → Ordering). IsSorted R c.sort_unstable.new.self.items) g.met.K.ResultKey.ordered c.sort_unstable.ensures.sorted) c.dedup.ensures.filtered

pub returns-clause-same : goal.returns-clause-same
returns-clause-same g c k =
    let keys = key_order g.met.K.ResultKey.ordered g.met.K.Ord.total g.met.K.ResultKey.exact g.met.K.Ord.matches_eq in
    same_items keys.total keys.exact keys.ties c.args.keys.items c.sort_unstable.new.self.items c.dedup.new.self.items c.sort_unstable.ensures.permutation
    (subst (λ (R : g.row.K.Denot → g.row.K.Denot → Ordering). IsSorted R c.sort_unstable.new.self.items) g.met.K.ResultKey.ordered c.sort_unstable.ensures.sorted) c.dedup.ensures.filtered k
