use Rattle.std.proofs.Common.{List, refl, sym, ap, subst, ◌∙◌}
use Rattle.std.specs.FinMap.{FinMap, get}
use Rattle.ospf_types.specs.Network.{Network, network_cmp}
use Rattle.prefix_index.specs.Slots.{HasNetwork}
use Rattle.prefix_index.proofs.Lookups.{value_at}
use Rattle.prefix_index.proofs.Whole.{missing}
use Rattle.prefix_index.proofs.map.NetworkMap.get.Goals as goal

pub returns-in-Some : goal.returns-in-Some
returns-in-Some g c =
    let has = subst (λ (es : List (Network × g.row.V.Denot)). HasNetwork es c.in-Some.place c.args.network) c.as_slice.ensures.value c.in-Some.ensures.found in
    value_at c.self.inside.entries.items c.self.invariant.once c.args.network c.in-Some.place has c.index.result.now c.index.ensures
    ∙ ap (λ (m : FinMap network_cmp g.row.V.Denot). get m c.args.network) c.self.view_is

pub returns-in-None : goal.returns-in-None
returns-in-None g c =
    sym (ap (λ (m : FinMap network_cmp g.row.V.Denot). get m c.args.network) (sym c.self.view_is)
    ∙ missing c.self.inside.entries.items c.self.inside.slots c.self.invariant c.args.network
    (λ i has. c.in-None.ensures.missing refl i (subst (λ (es : List (Network × g.row.V.Denot)). HasNetwork es i c.args.network) (sym c.as_slice.ensures.value) has)))
