-- Ranges and the next one in the list.
use Rattle.std.specs.Prelude.{◌≡◌, ◌&&◌, ◌||◌, Bool, true, false, List, [], ◌∷◌}
use Rattle.std.specs.Ordering.{is_lt}
use Rattle.ospf_types.specs.declared.config.Range.{Range}
use Rattle.ospf_types.specs.declared.prefix.Prefix.{Prefix}
use Rattle.ospf_types.specs.Masks.{masked}
use Rattle.ospf_types.specs.Network.{network_cmp}
use Rattle.ospf_types.specs.Configs.{is_overlap}

-- the bits past the length are zero
abbrev pub IsMasked : Prefix → Type 0
IsMasked p = masked p.address p.length ≡ p.address

-- by address, and then by length
abbrev pub is_before : Prefix → Prefix → Bool
is_before p q = is_lt (network_cmp p q)

-- the range comes before the first of the others, if there is one
abbrev pub is_before_first : Range → List Range → Bool
is_before_first a [] = true
is_before_first a (b ∷ ranges) = is_before a.prefix b.prefix

-- each range comes before the next one
abbrev pub is_ascending : List Range → Bool
is_ascending [] = true
is_ascending (a ∷ ranges) = is_before_first a ranges && is_ascending ranges

-- the range overlaps the first of the others
abbrev pub overlaps_first : Range → List Range → Bool
overlaps_first a [] = false
overlaps_first a (b ∷ ranges) = is_overlap a b

-- a range overlaps the next one
abbrev pub has_next_overlap : List Range → Bool
has_next_overlap [] = false
has_next_overlap (a ∷ ranges) = overlaps_first a ranges || has_next_overlap ranges
