use Rattle.std.proofs.Common.{◌∷◌, sym, ap, ◌∙◌, subst, arith}
use Rattle.atomic_table.specs.Table.{rest}
use Rattle.publication.specs.Names.{Name}
use Rattle.engine.specs.EngineSlots.{FitsSlot}
use Rattle.engine.proofs.Rooming.{takes_slot, gives_slot_as}
use Rattle.engine.proofs.slot.EngineSlot.swap.Goals as goal

pub swap_new_seat-found-requires : goal.swap_new_seat-found-requires
swap_new_seat-found-requires g c = (omega (arith, c.self.invariant.0), takes_slot _ _)

pub store-requires : goal.store-requires
store-requires g c =
    let swap = c.swap_new_seat-found.ensures in
    let took = swap.1.0 c.if-found-eq0.true in
    let put = c.exchange-old.ensures in
    let me = put.3 ∙ ap (λ cs. (c.swap_new_seat-found.result.1.me.0, (0, c.args.new) ∷ rest cs)) took.1 in (
      put.0 ∙ swap.0,
      omega (arith, c.self.invariant.0),
      gives_slot_as _ c.swap_new_seat-found.result.1.me.0 _ _ c.args.new _ me c.self.invariant.1 (subst (λ (n : Name). FitsSlot n c.args.new) (sym c.self.view_is) c.requires),
    )
