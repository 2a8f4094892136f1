use Rattle.std.proofs.Common.{List, sym, subst}
use Rattle.ospf_types.specs.Network.{Network}
use Rattle.prefix_index.specs.Slots.{AreSlotsRight, AreSlotted}
use Rattle.prefix_index.proofs.map.NetworkMap.shrink.Goals as goal

pub invariant_of-self : goal.invariant_of-self
invariant_of-self g c =
    let s = c.self.inside in
    subst (λ (es : List (Network × g.row.V.Denot)). AreSlotsRight s.hashing es c.in-Ok.slots) (sym c.shrink_to_fit.ensures.items) (record {
      once = c.self.invariant.once;
      slotted = subst (λ (es : List (Network × g.row.V.Denot)). AreSlotted s.hashing es c.in-Ok.slots) c.as_slice.ensures.value c.in-Ok.ensures.slotted;
    })
