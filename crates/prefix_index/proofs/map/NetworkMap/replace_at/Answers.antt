use Rattle.std.proofs.Common.{List, subst, ap, ◌∙◌, arith}
use Rattle.std.specs.FinMap.{FinMap, insert}
use Rattle.ospf_types.specs.Network.{Network, network_cmp}
use Rattle.prefix_index.specs.Slots.{HasNetwork}
use Rattle.prefix_index.proofs.Lookups.{has_within}
use Rattle.prefix_index.proofs.Whole.{has_value, replaced, replaced_map}
use Rattle.prefix_index.proofs.map.NetworkMap.replace_at.Goals as goal

pub index_mut-requires : goal.index_mut-requires
index_mut-requires g c =
    let has = subst (λ (es : List (Network × g.row.V.Denot)). HasNetwork es c.args.place c.args.network) c.as_slice.ensures.value (c.stands_at.ensures c.if-stands_at.true) in
    let within = has_within c.self.inside.entries.items c.args.place c.args.network has in
    omega (arith, within, c.self.inside.entries.ok.0)

pub invariant_of-self : goal.invariant_of-self
invariant_of-self g c =
    let has = subst (λ (es : List (Network × g.row.V.Denot)). HasNetwork es c.args.place c.args.network) c.as_slice.ensures.value (c.stands_at.ensures c.if-stands_at.true) in
    replaced c.self.inside.entries.items c.self.inside.slots c.self.invariant c.args.network c.args.place has c.args.value

pub returns-then-stands_at-clause-replaced : goal.returns-then-stands_at-clause-replaced
returns-then-stands_at-clause-replaced g c =
    let has = subst (λ (es : List (Network × g.row.V.Denot)). HasNetwork es c.args.place c.args.network) c.as_slice.ensures.value (c.stands_at.ensures c.if-stands_at.true) in
    replaced_map c.self.inside.entries.items c.self.inside.slots c.self.invariant c.args.network c.args.place has c.args.value
    ∙ ap (λ (m : FinMap network_cmp g.row.V.Denot). insert m c.args.network c.args.value) c.self.view_is

pub returns-then-stands_at-clause-stood : goal.returns-then-stands_at-clause-stood
returns-then-stands_at-clause-stood g c =
    let has = subst (λ (es : List (Network × g.row.V.Denot)). HasNetwork es c.args.place c.args.network) c.as_slice.ensures.value (c.stands_at.ensures c.if-stands_at.true) in
    has_value c.self.inside.entries.items c.self.invariant.once c.args.network c.args.place has c.args.self.now c.self.view_is
