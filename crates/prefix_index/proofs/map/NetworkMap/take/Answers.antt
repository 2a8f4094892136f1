use Rattle.std.proofs.Common.{◌<◌, List, length, is_some, refl, sym, ap, subst, ◌∙◌, arith}
use Rattle.std.specs.FinMap.{FinMap, remove}
use Rattle.ospf_types.specs.Network.{Network, network_cmp}
use Rattle.prefix_index.specs.Slots.{HasNetwork, IsEntryRemoved}
use Rattle.prefix_index.proofs.Lookups.{has_within}
use Rattle.prefix_index.proofs.Standing.{none_removed}
use Rattle.prefix_index.proofs.Taking.{swapped_by}
use Rattle.prefix_index.proofs.Whole.{has_value, none_by, taken, taken_map}
use Rattle.prefix_index.proofs.map.NetworkMap.take.Goals as goal

pub returns-in_default-clause-removed : goal.returns-in_default-clause-removed
returns-in_default-clause-removed g c =
    none_removed c.args.self.now c.args.network (none_by c.self.inside.entries.items c.self.inside.slots c.self.invariant c.args.network c.args.self.now c.self.view_is
    (λ i has. c.in_default.ensures.missing refl i (subst (λ (es : List (Network × g.row.V.Denot)). HasNetwork es i c.args.network) (sym c.as_slice.ensures.value) has)))

pub returns-in_default-clause-stood : goal.returns-in_default-clause-stood
returns-in_default-clause-stood g c =
    sym (ap is_some (none_by c.self.inside.entries.items c.self.inside.slots c.self.invariant c.args.network c.args.self.now c.self.view_is
    (λ i has. c.in_default.ensures.missing refl i (subst (λ (es : List (Network × g.row.V.Denot)). HasNetwork es i c.args.network) (sym c.as_slice.ensures.value) has))))

pub take-requires-clause-within : goal.take-requires-clause-within
take-requires-clause-within g c =
    let has = subst (λ (es : List (Network × g.row.V.Denot)). HasNetwork es c.in-Some.place c.args.network) c.as_slice.ensures.value c.in-Some.ensures.found in
    subst (λ (es : List (Network × g.row.V.Denot)). c.in-Some.place < length es) (sym c.as_slice-2.ensures.value) (has_within c.self.inside.entries.items c.in-Some.place c.args.network has)

pub swap_remove-requires : goal.swap_remove-requires
swap_remove-requires g c =
    let has = subst (λ (es : List (Network × g.row.V.Denot)). HasNetwork es c.in-Some.place c.args.network) c.as_slice.ensures.value c.in-Some.ensures.found in
    let within = has_within c.self.inside.entries.items c.in-Some.place c.args.network has in
    omega (arith, within, c.self.inside.entries.ok.0)

pub invariant_of-self : goal.invariant_of-self
invariant_of-self g c =
    let s = c.self.inside in
    let has = subst (λ (es : List (Network × g.row.V.Denot)). HasNetwork es c.in-Some.place c.args.network) c.as_slice.ensures.value c.in-Some.ensures.found in
    let within = has_within s.entries.items c.in-Some.place c.args.network has in
    let gone = subst (λ (es : List (Network × g.row.V.Denot)). IsEntryRemoved s.hashing es c.in-Some.place s.slots c.take.new.self) c.as_slice-2.ensures.value c.take.ensures in
    let swapped = swapped_by s.entries.items c.swap_remove.new.self.items c.in-Some.place _ _ s.entries.ok.0 c.swap_remove.new.self.ok.0 within c.swap_remove.ensures.len c.swap_remove.ensures.by_index in
    taken s.entries.items c.swap_remove.new.self.items c.in-Some.place swapped s.hashing s.slots c.take.new.self c.self.invariant gone

pub returns-clause-removed : goal.returns-clause-removed
returns-clause-removed g c =
    let s = c.self.inside in
    let has = subst (λ (es : List (Network × g.row.V.Denot)). HasNetwork es c.in-Some.place c.args.network) c.as_slice.ensures.value c.in-Some.ensures.found in
    let within = has_within s.entries.items c.in-Some.place c.args.network has in
    let swapped = swapped_by s.entries.items c.swap_remove.new.self.items c.in-Some.place _ _ s.entries.ok.0 c.swap_remove.new.self.ok.0 within c.swap_remove.ensures.len c.swap_remove.ensures.by_index in
    taken_map s.entries.items c.swap_remove.new.self.items c.in-Some.place swapped c.self.invariant.once c.args.network has
    ∙ ap (λ (m : FinMap network_cmp g.row.V.Denot). remove m c.args.network) c.self.view_is

pub returns-clause-stood : goal.returns-clause-stood
returns-clause-stood g c =
    let has = subst (λ (es : List (Network × g.row.V.Denot)). HasNetwork es c.in-Some.place c.args.network) c.as_slice.ensures.value c.in-Some.ensures.found in
    sym (has_value c.self.inside.entries.items c.self.invariant.once c.args.network c.in-Some.place has c.args.self.now c.self.view_is)
