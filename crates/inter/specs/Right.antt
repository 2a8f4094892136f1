-- When inter-area routes are as defined.
use Rattle.std.specs.Prelude.{ℕ, ◌≡◌, ◌≢◌, ◌⊎◌, Option, Some, None}
use Rattle.std.specs.FinMap.{get, values}
use Rattle.std.specs.List.{AllPairs}
use Rattle.ospf_types.specs.declared.entry.Entry.{Entry}
use Rattle.ospf_types.specs.declared.hop.Path.{Path}
use Rattle.ospf_types.specs.declared.key.Dest.TheVariants.{Net, Router}
use Rattle.ospf_types.specs.declared.prefix.Prefix.{Prefix}
use Rattle.ospf_types.specs.Inputs.{Inputs, Area}
use Rattle.ospf_types.specs.Inter.{InterOffers}
use Rattle.ospf_types.specs.Boundary.{BoundaryInterOffers}
use Rattle.ospf_types.specs.Ranges.{IsExamined}
use Rattle.lsdb.specs.Contents.{IsDatabaseSound}
use Rattle.intra.specs.Right.{IsRightFor as IsIntraRight}
use Rattle.active_ranges.specs.Right.{IsRightFor as AreRangesRight}
use Rattle.inter.specs.Inputs.{ExaminedValue, InterInputsValue}
use Rattle.inter.specs.Inters.{InterValue, IsEntryFor}

-- the examined area, with its LSAs, and there is no other
pub record IsExaminedArea (s : Inputs) (a : Area) (x : ExaminedValue) : Type 0 where
  pub examined : IsExamined s a
  pub id : a.id ≡ x.area
  pub lsas : a.lsas ≡ values x.lsas
  pub sound : IsDatabaseSound x.lsas

abbrev pub IsExaminedFor : Inputs → Option ExaminedValue → Type 0
IsExaminedFor s None = (a : Area) → IsExamined s a → ⊥
IsExaminedFor s (Some x) = (a : Area) × IsExaminedArea s a x

-- what the routes are calculated from is what the definitions speak of
pub record AreInputsOf (s : Inputs) (v : InterInputsValue) : Type 0 where
  pub router : v.root ≡ s.router
  pub apart : AllPairs (λ (a b : Area). a.id ≢ b.id) s.areas
  pub examined : IsExaminedFor s v.examined
  pub intra : IsIntraRight s v.intra
  pub ranges : AreRangesRight s v.active

-- the entry is the best of the offers, through the examined area, or `None` if nothing is offered
abbrev pub IsEntryOf : Inputs → (ℕ → Path → Type 0) → Option Entry → Type 0
IsEntryOf s offers e = ((a : Area) × IsExamined s a × IsEntryFor a.id offers e) ⊎ (((a : Area) → IsExamined s a → ⊥) × (e ≡ None))

-- each network has the entry that the definitions give, and so has each AS boundary router
pub record IsRightFor (s : Inputs) (w : InterValue) : Type 0 where
  pub networks : (p : Prefix) → IsEntryOf s (InterOffers s p) (get w.entries (Net p))
  pub routers : (r : ℕ) → IsEntryOf s (BoundaryInterOffers s r) (get w.entries (Router r))

-- the routes are right for all that the definitions may say of these inputs
abbrev pub IsRightWith : InterInputsValue → InterValue → Type 0
IsRightWith v w = (s : Inputs) → AreInputsOf s v → IsRightFor s w
