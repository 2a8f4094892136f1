use Rattle.std.proofs.Common.{List, refl, sym, ap, subst, ◌∙◌}
use Rattle.std.specs.FinMap.{FinMap, insert}
use Rattle.ospf_types.specs.Network.{Network, network_cmp}
use Rattle.prefix_index.specs.Slots.{HasNetwork}
use Rattle.prefix_index.proofs.Whole.{has_value, none_by, replaced, replaced_map}
use Rattle.prefix_index.proofs.map.NetworkMap.replace.Goals as goal

pub invariant_of-self : goal.invariant_of-self
invariant_of-self g c =
    let has = subst (λ (es : List (Network × g.row.V.Denot)). HasNetwork es c.in-Some.place c.args.network) c.as_slice.ensures.value c.in-Some.ensures.found in
    replaced c.self.inside.entries.items c.self.inside.slots c.self.invariant c.args.network c.in-Some.place has c.args.value

pub returns-in-Some-clause-replaced : goal.returns-in-Some-clause-replaced
returns-in-Some-clause-replaced g c =
    let has = subst (λ (es : List (Network × g.row.V.Denot)). HasNetwork es c.in-Some.place c.args.network) c.as_slice.ensures.value c.in-Some.ensures.found in
    replaced_map c.self.inside.entries.items c.self.inside.slots c.self.invariant c.args.network c.in-Some.place has c.args.value
    ∙ ap (λ (m : FinMap network_cmp g.row.V.Denot). insert m c.args.network c.args.value) c.self.view_is

pub returns-in-Some-clause-stood : goal.returns-in-Some-clause-stood
returns-in-Some-clause-stood g c =
    let has = subst (λ (es : List (Network × g.row.V.Denot)). HasNetwork es c.in-Some.place c.args.network) c.as_slice.ensures.value c.in-Some.ensures.found in
    has_value c.self.inside.entries.items c.self.invariant.once c.args.network c.in-Some.place has c.args.self.now c.self.view_is

pub returns-in-None-clause-absent : goal.returns-in-None-clause-absent
returns-in-None-clause-absent g c = λ _.
    none_by c.self.inside.entries.items c.self.inside.slots c.self.invariant c.args.network c.args.self.now c.self.view_is
    (λ i has. c.in-None.ensures.missing refl i (subst (λ (es : List (Network × g.row.V.Denot)). HasNetwork es i c.args.network) (sym c.as_slice.ensures.value) has))
