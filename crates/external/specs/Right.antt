-- When external routes are as defined.
use Rattle.std.specs.Prelude.{ℕ, ◌≡◌, ◌≢◌, map}
use Rattle.std.specs.FinMap.{get, values}
use Rattle.std.specs.List.{AllPairs}
use Rattle.ospf_types.specs.declared.prefix.Prefix.{Prefix}
use Rattle.ospf_types.specs.Boundary.{BoundaryOffers}
use Rattle.ospf_types.specs.External.{ExternalOffers}
use Rattle.ospf_types.specs.Inputs.{Inputs, Area}
use Rattle.lsdb.specs.Contents.{IsDatabaseSound}
use Rattle.intra.specs.Right.{IsRightFor as IsIntraRight}
use Rattle.active_ranges.specs.Right.{IsRightFor as AreRangesRight}
use Rattle.inter.specs.Right.{IsRightFor as IsInterRight}
use Rattle.external.specs.Inputs.{ExternalInputsValue}
use Rattle.external.specs.AsbrRoute.{IsPreferredFor}
use Rattle.external.specs.Externals.{ExternalValue, IsEntryFor}

-- what the routes are calculated from is what the definitions speak of
pub record AreInputsOf (s : Inputs) (v : ExternalInputsValue) : Type 0 where
  pub router : v.root ≡ s.router
  pub compat : v.compat ≡ s.compat
  pub areas : v.areas ≡ map (λ (a : Area). a.id) s.areas
  pub apart : AllPairs (λ (a b : Area). a.id ≢ b.id) s.areas
  pub lsas : s.externals ≡ values v.lsas
  pub sound : IsDatabaseSound v.lsas
  pub intra : IsIntraRight s v.intra
  pub ranges : AreRangesRight s v.active
  pub inter : IsInterRight s v.inter

-- each network has the external entry that the definitions give, and each AS boundary router its
-- preferred entry
pub record IsRightFor (s : Inputs) (w : ExternalValue) : Type 0 where
  pub entries : (p : Prefix) → IsEntryFor (ExternalOffers s p) (get w.entries p)
  pub preferred : (router : ℕ) → IsPreferredFor (BoundaryOffers s router) (get w.preferred router)

-- the routes are right for all that the definitions may say of these inputs
abbrev pub IsRightWith : ExternalInputsValue → ExternalValue → Type 0
IsRightWith v w = (s : Inputs) → AreInputsOf s v → IsRightFor s w
