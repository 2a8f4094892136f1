-- When active ranges are as defined.
use Rattle.std.specs.Prelude.{◌≡◌, ◌↔◌, List, [], ◌∷◌}
use Rattle.ospf_types.specs.declared.config.AreaConfig.{AreaConfig}
use Rattle.ospf_types.specs.declared.prefix.Prefix.{Prefix}
use Rattle.ospf_types.specs.Inputs.{Inputs, Area}
use Rattle.ospf_types.specs.Ranges.{IsActivePrefix}
use Rattle.intra.specs.Intras.{IntraValue}
use Rattle.intra.specs.Right.{IsRightFor as IsIntraRight}
use Rattle.active_ranges.specs.Active.{ActiveValue, IsActiveIn}

-- the areas are configured so
abbrev pub AreConfigured : List Area → List AreaConfig → Type 0
AreConfigured [] [] = Unit {0}
AreConfigured (b ∷ bs) (a ∷ areas) = (b.id ≡ a.id) × (b.ranges ≡ a.ranges) × AreConfigured bs areas
AreConfigured [] (a ∷ areas) = ⊥
AreConfigured (b ∷ bs) [] = ⊥

-- the prefixes of active ranges are just those of the definitions
abbrev pub IsRightFor : Inputs → ActiveValue → Type 0
IsRightFor s v = (p : Prefix) → IsActiveIn v p ↔ IsActivePrefix s p

-- the active ranges are right for all inputs that are configured so, and for which the intra-area
-- routes are right
abbrev pub IsRightWith : List AreaConfig → IntraValue → ActiveValue → Type 0
IsRightWith areas intra v = (s : Inputs) → AreConfigured s.areas areas → IsIntraRight s intra → IsRightFor s v
