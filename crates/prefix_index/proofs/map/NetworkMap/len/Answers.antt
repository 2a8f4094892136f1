use Rattle.std.proofs.Common.{◌≤◌, ◌^◌, sym, ap, ◌∙◌, arith}
use Rattle.std.proofs.Math.Pow.{pow_mono}
use Rattle.std.specs.FinMap.{FinMap, len}
use Rattle.ospf_types.specs.Network.{network_cmp}
use Rattle.prefix_index.proofs.Lookups.{counted}
use Rattle.prefix_index.proofs.map.NetworkMap.len.Goals as goal

pub returns-clause-count : goal.returns-clause-count
returns-clause-count g c =
    c.len.ensures ∙ omega (arith, c.self.inside.entries.ok.0)
    ∙ sym (counted c.self.inside.entries.items c.self.invariant.once) ∙ ap (λ (m : FinMap network_cmp g.row.V.Denot). len m) c.self.view_is

pub returns-clause-small : goal.returns-clause-small
returns-clause-small g c =
    let slotted = c.self.invariant.slotted in
    let homes : 2 ^ c.self.inside.slots.bits ≤ 2 ^ 31 = pow_mono slotted.small in
    let room = slotted.room in
    omega (arith, homes, room, c.len.ensures, c.self.inside.entries.ok.0)
