-- Where no area was examined, no more than that differs.
use Rattle.std.proofs.Common.{subst, sym}
use Rattle.inter.specs.Inters.{IsInterOf}
use Rattle.inter.proofs.Frame.{blanked, blank_is, blank_differs}
use Rattle.inter.proofs.inter.Inter.build.Goals as goal

pub update-requires : goal.update-requires
update-requires c =
    let v = c.args.inputs.now in
    record { before = (blanked v, subst (IsInterOf (blanked v)) (sym c.blank-inter.ensures) (blank_is v), blank_differs c.new-2.result.items c.new-4.result.items v) }
