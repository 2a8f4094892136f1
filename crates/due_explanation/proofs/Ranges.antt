-- The test if a range of an area has a network.
use Rattle.std.proofs.Common.{ℕ, List, subst, sym, refl}
use Rattle.std.specs.Prelude.{Contains}
use Rattle.std.proofs.lemmas.List.Elements.{All-contains}
use Rattle.ospf_types.specs.declared.config.AreaConfig.{AreaConfig}
use Rattle.ospf_types.specs.declared.config.Range.{Range}
use Rattle.ospf_types.specs.declared.prefix.Prefix.{Prefix}
use Rattle.ospf_types.specs.Address.{Covers}
use Rattle.active_ranges.proofs.Searching.{HasNone, all_lack}
use Rattle.summaries.specs.Giving.{IsOutsideRanges}
use Rattle.due_explanation.specs.Sources.{HasRangeAround, IsRangeAround, IsRangeOf}

pub around_in : (areas : List AreaConfig) (id : ℕ) (p : Prefix) (a : AreaConfig) (around : Prefix) → Contains areas a → IsRangeOf id p a around → IsRangeAround areas id p around
around_in areas id p a around there is = (a, is.0, there, is.1, is.2, is.3, is.4)

pub outside_all : (areas : List AreaConfig) (id : ℕ) (p : Prefix) → HasNone (HasRangeAround id p) areas → IsOutsideRanges areas id p
outside_all areas id p none a there is = all_lack (λ (r : Range). Covers r.prefix p) a.ranges (λ r among covers. none a there (r.prefix, (r, is, among, refl, covers)))

pub not_outside : (areas : List AreaConfig) (id : ℕ) (p around : Prefix) → IsRangeAround areas id p around → IsOutsideRanges areas id p → {P : Type 0} → P
not_outside areas id p around is outside = absurd (All-contains (λ (r : Range). Covers r.prefix p → ⊥) is.0.ranges is.1 (outside is.0 is.2 is.3) is.4 (subst (λ (q : Prefix). Covers q p) (sym is.5) is.6))
