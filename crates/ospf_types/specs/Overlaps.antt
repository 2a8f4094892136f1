-- The overlap of a range with the other ranges of an area (RFC 2328, 3.5).
use Rattle.std.specs.Prelude.{◌&&◌, Bool, not, List}
use Rattle.std.specs.List.{list_any}
use Rattle.ospf_types.specs.declared.config.Range.{Range}
use Rattle.ospf_types.specs.RangeChanges.{is_same_prefix}
use Rattle.ospf_types.specs.Configs.{is_overlap}

-- another of the ranges covers the range, or is covered by it
abbrev pub overlaps_another : Range → List Range → Bool
overlaps_another r ranges = list_any (λ other. not (is_same_prefix r.prefix other.prefix) && is_overlap r other) ranges
