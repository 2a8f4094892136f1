use Rattle.std.proofs.Common.{sym, subst, ◌∙◌}
use Rattle.std.specs.FinMap.{FinMap}
use Rattle.prefix_index.proofs.Standing.{none_removed}
use Rattle.ospf_types.specs.Network.{network_cmp}
use Rattle.prefix_index.specs.Kept.{AreLengthsNoted, AreOrdered, IsWhole}
use Rattle.prefix_index.specs.Noted.{IsLengthNoted}
use Rattle.prefix_index.proofs.Entries.{none_by, of_each_left}
use Rattle.prefix_index.proofs.Ordering.{order_left}
use Rattle.std.specs.FinMap as map
use Rattle.prefix_index.proofs.index.PrefixIndex.remove.Goals as goal

pub invariant_of-self : goal.invariant_of-self
invariant_of-self g c =
    let s = c.self.inside in
    let none = none_by (map.get s.items c.args.network) (sym c.if-not-remove.ensures.stood) in
    subst (λ (m : FinMap network_cmp g.row.V.Denot). IsWhole s.lengths m s.order) (none_removed s.items c.args.network none ∙ sym c.remove.ensures.removed) c.self.invariant

pub drop_others-requires : goal.drop_others-requires
drop_others-requires g c =
    let s = c.self.inside in
    subst (λ (m : FinMap network_cmp g.row.V.Denot). AreOrdered m s.order) (sym c.remove.ensures.removed) (order_left s.items s.order c.args.network c.self.invariant.ordered)

pub invariant_of-self-2 : goal.invariant_of-self-2
invariant_of-self-2 g c =
    let s = c.self.inside in
    record {
      noted = subst (λ (m : FinMap network_cmp g.row.V.Denot). AreLengthsNoted s.lengths m) (sym c.remove.ensures.removed) (of_each_left (IsLengthNoted s.lengths) s.items c.args.network c.self.invariant.noted);
      ordered = c.drop_others.ensures.ordered;
      few = c.drop_others.ensures.few;
    }
