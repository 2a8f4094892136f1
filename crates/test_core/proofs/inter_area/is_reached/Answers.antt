-- The inputs stay.
use Rattle.std.proofs.Common.{◌≡◌, List, Some, refl, sym, ap, ◌∙◌}
use Rattle.ospf_types.specs.declared.key.Dest.{Dest}
use Rattle.ospf_types.specs.declared.key.Key.{Key}
use Rattle.ospf_types.specs.declared.key.Scope.{Scope}
use Rattle.lsdb.specs.Contents.{body_at}
use Rattle.inter.specs.Changes.{InputsDifferAmong}
use Rattle.inter.specs.Inputs.{ExaminedValue, InterInputsValue}
use Rattle.test_core.proofs.inter_area.is_reached.Goals as goal

still : (keys : List (Scope × Key)) (dests : List Dest) (v : InterInputsValue) → InputsDifferAmong keys dests v v
still keys dests v = record {
  root = refl;
  lsas = λ x y one other same k absent. let is : Some x ≡ Some y = sym one ∙ other in let alike : y ≡ x = cc in ap (λ (z : ExaminedValue). body_at z.lsas k) alike;
  entries = λ p absent. refl;
  ranges = λ p absent. (λ h. h, λ h. h);
  routers = λ r absent area. refl;
}

pub update-requires : goal.update-requires
update-requires c = record { before = (c.args.inputs.now, c.in_ok-inter.ensures.kept, still _ _ c.args.inputs.now) }
