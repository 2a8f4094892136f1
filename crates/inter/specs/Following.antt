-- How the index follows the inputs, and which destinations may get another entry.
use Rattle.std.specs.Prelude.{◌≡◌, ◌⊎◌, ℕ, List, Contains, Option, Some, None, option_map}
use Rattle.std.specs.FinMap.{get, empty}
use Rattle.ospf_types.specs.declared.key.Dest.{Dest}
use Rattle.ospf_types.specs.declared.key.Dest.TheVariants.{Router}
use Rattle.ospf_types.specs.declared.key.Key.{Key}
use Rattle.ospf_types.specs.declared.key.Scope.{Scope}
use Rattle.ospf_types.specs.declared.key.Scope.TheVariants.{Area}
use Rattle.lsdb.specs.Databases.{Database}
use Rattle.advertised_index.specs.Indexes.{OfferIndexValue, IsIndexOf, LsasDifferAmong, GroupLeadsTo, IsLedTo, HasDest}
use Rattle.advertised_index.specs.declared.index_key.IndexKey.TheVariants.{By}
use Rattle.inter.specs.Inputs.{ExaminedValue, InterInputsValue}
use Rattle.inter.specs.Inters.{IsIndexFor}

-- ---- the index

abbrev pub area_of : Option ExaminedValue → Option ℕ
area_of x = option_map (λ (y : ExaminedValue). y.area) x

-- of one area no LSA is used otherwise, but for those that are named
abbrev pub ExaminedDifferAmong : List (Scope × Key) → Option ExaminedValue → Option ExaminedValue → Type 0
ExaminedDifferAmong keys old new = (x y : ExaminedValue) → old ≡ Some x → new ≡ Some y → y.area ≡ x.area → LsasDifferAmong keys (Area x.area) x.lsas y.lsas

-- the index belongs to an area that was examined before, from which this one differs in no more
-- than is named if it is the same
abbrev pub IsIndexBefore : ℕ → List (Scope × Key) → Option ExaminedValue → Option ℕ → OfferIndexValue → Type 0
IsIndexBefore root keys x area i = (before : Option ExaminedValue) × (area ≡ area_of before) × IsIndexFor root before i × ExaminedDifferAmong keys before x

-- the index belongs to this area before, from which it differs in no more than is named; empty
-- where none is examined
abbrev pub IsIndexSince : ℕ → List (Scope × Key) → Option ExaminedValue → OfferIndexValue → Type 0
IsIndexSince root keys None i = i ≡ record { routes = empty }
IsIndexSince root keys (Some x) i = (before : Database) × IsIndexOf root (Area x.area) before i × LsasDifferAmong keys (Area x.area) before x.lsas

-- ---- the destinations

-- one area is examined before and after, and under each key the same is advertised, or what it led
-- to and leads to is among these
abbrev pub AreLed : Option ℕ → Option ℕ → OfferIndexValue → OfferIndexValue → List Dest → Type 0
AreLed area_before area_after old new dests = (k : Key) → ((area_after ≡ area_before) × (get new.routes k ≡ get old.routes k))
    ⊎ ((d : Dest) → HasDest (get old.routes k) d ⊎ HasDest (get new.routes k) d → Contains dests d)

-- if the destination is a router, the list has all that the router's summaries lead to
abbrev pub HasAllBehind : OfferIndexValue → Dest → List Dest → Type 0
HasAllBehind i dest list = (router : ℕ) (d : Dest) → dest ≡ Router router → GroupLeadsTo i (By router) d → Contains list d

-- the list has all of before, the destination if a summary leads to it, and, where it is a router,
-- all that the router's summaries lead to
pub record IsPushed (i : OfferIndexValue) (dest : Dest) (before after : List Dest) : Type 0 where
  pub kept : (d : Dest) → Contains before d → Contains after d
  pub itself : IsLedTo i dest → Contains after dest
  pub behind : (router : ℕ) (d : Dest) → dest ≡ Router router → GroupLeadsTo i (By router) d → Contains after d

-- the list has all of before, those of these destinations that a summary leads to, and all that the
-- summaries of the routers lead to
pub record ArePushed (i : OfferIndexValue) (dests : List Dest) (before after : List Dest) : Type 0 where
  pub kept : (d : Dest) → Contains before d → Contains after d
  pub themselves : (d : Dest) → Contains dests d → IsLedTo i d → Contains after d
  pub behind : (router : ℕ) (d : Dest) → Contains dests (Router router) → GroupLeadsTo i (By router) d → Contains after d

-- the index belongs to the inputs, and the destinations that may get another entry are among these:
-- of those that are named just such that a summary leads to
pub record IsFollowed (named : List Dest) (v : InterInputsValue) (area_before : Option ℕ) (old new : OfferIndexValue) (dests : List Dest) : Type 0 where
  pub index : IsIndexFor v.root v.examined new
  pub led : AreLed area_before (area_of v.examined) old new dests
  pub themselves : (d : Dest) → Contains named d → IsLedTo new d → Contains dests d
  pub behind : (router : ℕ) (d : Dest) → Contains named (Router router) → GroupLeadsTo new (By router) d → Contains dests d
