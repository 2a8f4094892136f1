use Rattle.std.proofs.Common.{List, subst}
use Rattle.ospf_types.specs.Network.{Network}
use Rattle.prefix_index.specs.Slots.{HasNetwork}
use Rattle.prefix_index.proofs.Whole.{has_value}
use Rattle.prefix_index.proofs.map.NetworkMap.has_at.Goals as goal

pub returns : goal.returns
returns g c = λ yes.
    has_value c.self.inside.entries.items c.self.invariant.once c.args.network c.args.place
    (subst (λ (es : List (Network × g.row.V.Denot)). HasNetwork es c.args.place c.args.network) c.as_slice.ensures.value (c.stands_at.ensures yes)) c.args.self.now c.self.view_is
