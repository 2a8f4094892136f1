-- The destinations whose summaries may differ where these differ.
use Rattle.std.specs.Prelude.{◌≡◌, ◌⊎◌, List, Contains}
use Rattle.ospf_types.specs.declared.config.AreaConfig.{AreaConfig}
use Rattle.ospf_types.specs.declared.config.Range.{Range}
use Rattle.ospf_types.specs.declared.key.Dest.{Dest}
use Rattle.ospf_types.specs.declared.key.Dest.TheVariants.{Net, Router}
use Rattle.ospf_types.specs.declared.prefix.Prefix.{Prefix}
use Rattle.ospf_types.specs.Address.{Covers}

-- the prefix of a range that has a named network
abbrev pub IsRangeOver : List AreaConfig → List Dest → Prefix → Type 0
IsRangeOver areas dests p = (a : AreaConfig) × (r : Range) × (network : Prefix)
    × Contains areas a × Contains a.ranges r × (r.prefix ≡ p) × Contains dests (Net network) × Covers p network

-- one that is named, or the prefix of a range that has a named network
abbrev pub IsTouchedBy : List AreaConfig → List Dest → Dest → Type 0
IsTouchedBy areas dests d = Contains dests d ⊎ ((p : Prefix) × (d ≡ Net p) × IsRangeOver areas dests p)

-- ---- part by part, as destinations are added

-- a network that the prefix covers
abbrev pub IsNetIn : Prefix → Dest → Type 0
IsNetIn p (Net network) = Covers p network
IsNetIn p (Router router) = ⊥

-- the prefix, which has one of the networks
abbrev pub IsOverNetworks : List Dest → Prefix → Dest → Type 0
IsOverNetworks dests p d = (d ≡ Net p) × ((named : Dest) × Contains dests named × IsNetIn p named)

-- that of one of these ranges
abbrev pub IsOverIn : List Range → List Dest → Dest → Type 0
IsOverIn ranges dests d = (r : Range) × Contains ranges r × IsOverNetworks dests r.prefix d
