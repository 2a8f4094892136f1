-- The routing table (RFC 2328, 11 and 16).
use Rattle.std.specs.Prelude.{ℕ, ◌≡◌, ◌⊎◌, List, Option, Some, None, if◌then◌else◌, ◌==◌}
use Rattle.std.specs.List.Sorted.{IsStrictlySortedBy}
use Rattle.ospf_types.specs.declared.prefix.Prefix.{Prefix}
use Rattle.ospf_types.specs.declared.hop.Path.{Path}
use Rattle.ospf_types.specs.declared.entry.Entry.{Entry}
use Rattle.ospf_types.specs.declared.entry.PathType.{PathType}
use Rattle.ospf_types.specs.declared.entry.PathType.TheVariants.{Intra, Inter, External1, External2}
use Rattle.ospf_types.specs.Hops.{path_cmp}
use Rattle.ospf_types.specs.Inputs.{Inputs, Area}
use Rattle.ospf_types.specs.Intra.{AreaCost, IsIntra, NoIntra}
use Rattle.ospf_types.specs.Ranges.{IsActivePrefix, IsExamined}
use Rattle.ospf_types.specs.Inter.{IsInter, NoInter}
use Rattle.ospf_types.specs.External.{ExternalPreference, IsExternal, NoExternal}

abbrev pub external_type : ℕ → PathType
external_type kind = if kind == 1 then External1 else External2

abbrev pub entry_of : PathType → Option ℕ → ℕ → ℕ → List Path → Entry
entry_of kind area cost cost2 paths = record { kind = kind; area = area; cost = cost; cost2 = cost2; paths = paths }

-- the entry is the network's: intra-area, else inter-area, else external
abbrev pub IsBestEntry : Inputs → Prefix → Entry → Type 0
IsBestEntry s p e =
    ((preference : AreaCost) × IsIntra s p preference e.paths × (e ≡ entry_of Intra (Some preference.1) preference.0 0 e.paths))
    ⊎ ((cost : ℕ) × (a : Area) × IsInter s p cost e.paths × IsExamined s a × (e ≡ entry_of Inter (Some a.id) cost 0 e.paths))
    ⊎ ((preference : ExternalPreference) × IsExternal s p preference e.paths × (e ≡ entry_of (external_type preference.kind) None preference.cost preference.metric e.paths))

-- the network's entry, its paths in order without duplicates
pub record IsEntry (s : Inputs) (p : Prefix) (e : Entry) : Type 0 where
  pub best : IsBestEntry s p e
  pub in_order : IsStrictlySortedBy path_cmp e.paths

abbrev pub NoEntry : Inputs → Prefix → Type 0
NoEntry s p = NoIntra s p × NoInter s p × NoExternal s p

-- an active range whose prefix has no entry
abbrev pub IsDiscard : Inputs → Prefix → Type 0
IsDiscard s p = IsActivePrefix s p × NoEntry s p
