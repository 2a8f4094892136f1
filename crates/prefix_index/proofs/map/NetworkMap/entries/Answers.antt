use Rattle.std.proofs.Common.{◌≢◌, List, sym, subst}
use Rattle.std.specs.List.{AllPairs}
use Rattle.ospf_types.specs.Network.{Network}
use Rattle.prefix_index.proofs.Lookups.{pairs_apart}
use Rattle.prefix_index.proofs.map.NetworkMap.entries.Goals as goal

pub returns-clause-once : goal.returns-clause-once
returns-clause-once g c = subst (λ (es : List (Network × g.row.V.Denot)). AllPairs (λ e f. e.0 ≢ f.0) es) (sym c.as_slice.ensures.value) (pairs_apart c.self.inside.entries.items c.self.invariant.once)
