-- From areas without LSAs no more differs than the LSAs that there are.
use Rattle.std.proofs.Common.{◌≡◌, List, sym, ap, subst, ◌∙◌}
use Rattle.std.specs.List.{Contains}
use Rattle.intra.specs.Inputs.{AreaValue, InputsValue}
use Rattle.intra.specs.Intras.{IsIntraOf}
use Rattle.intra.proofs.Frame.{blank, blanked, blank_is, blank_differs}
use Rattle.intra.proofs.intra.Intra.build.Goals as goal

pub update-requires-clause-before : goal.update-requires-clause-before
update-requires-clause-before c =
    let v = c.args.inputs.now in
    let areas = ap (λ (w : InputsValue). w.areas) c.inputs.view_is in
    let start : c.in_ok-intra.intra ≡ blank v.areas = c.in_ok-intra.ensures ∙ ap blank areas in (
      blanked v,
      subst (IsIntraOf (blanked v)) (sym start) (blank_is v),
      blank_differs c.push_all_keys.new.keys.items c.new-2.result.items c.new-4.result.items v (λ a key there some.
          c.in_ok-push_all_keys.ensures a key (subst (λ (l : List AreaValue). Contains l a) (sym areas) there) some),
    )
