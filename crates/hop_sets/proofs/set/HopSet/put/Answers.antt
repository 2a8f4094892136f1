use Rattle.std.proofs.Common.{List, subst, ◌⊎◌, ◌≡◌}
use Rattle.std.specs.Prelude.{◌↔◌}
use Rattle.std.specs.List.{Contains, insert}
use Rattle.ospf_types.specs.declared.hop.NextHop.{NextHop}
use Rattle.ospf_types.proofs.InOrder.{has_also_inserted}
use Rattle.hop_sets.proofs.set.HopSet.put.Goals as goal

pub returns-in_ok-insert-in-Err-clause-added : goal.returns-in_ok-insert-in-Err-clause-added
returns-in_ok-insert-in-Err-clause-added c = λ h.
    let added = has_also_inserted c.self.inside.items.items c.in-Err.place c.args.hop h in
    let was = subst (λ (xs : List NextHop). Contains (insert c.self.inside.items.items c.in-Err.place c.args.hop) h ↔ (Contains xs h ⊎ (h ≡ c.args.hop))) c.self.view_is added in
    rw c.in_ok-insert-in-Err.ensures.ok was
