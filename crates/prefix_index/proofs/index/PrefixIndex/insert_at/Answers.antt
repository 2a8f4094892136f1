use Rattle.std.proofs.Common.{sym, subst}
use Rattle.std.specs.FinMap.{FinMap}
use Rattle.ospf_types.specs.Network.{network_cmp}
use Rattle.prefix_index.specs.Kept.{IsWhole}
use Rattle.prefix_index.proofs.Ordering.{whole_again}
use Rattle.prefix_index.proofs.index.PrefixIndex.insert_at.Goals as goal

pub invariant_of-self : goal.invariant_of-self
invariant_of-self g c =
    let s = c.self.inside in
    subst (λ (m : FinMap network_cmp g.row.V.Denot). IsWhole s.lengths m s.order) (sym c.in-None.ensures.replaced)
    (whole_again s.lengths s.items s.order c.args.network c.in-None.ensures.stood c.args.value c.self.invariant)
