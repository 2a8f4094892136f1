-- What differs in the inputs of external routes, and what is named of it.
use Rattle.std.specs.Prelude.{ℕ, ◌≡◌, ◌≢◌, ◌↔◌, List, Contains}
use Rattle.std.specs.FinMap.{get}
use Rattle.ospf_types.specs.declared.key.Dest.{Dest}
use Rattle.ospf_types.specs.declared.key.Dest.TheVariants.{Net, Router}
use Rattle.ospf_types.specs.declared.key.Key.{Key}
use Rattle.ospf_types.specs.declared.key.Scope.{Scope}
use Rattle.ospf_types.specs.declared.key.Scope.TheVariants.{As}
use Rattle.ospf_types.specs.declared.prefix.Prefix.{Prefix}
use Rattle.intra.specs.Intras.{reached_at}
use Rattle.advertised_index.specs.Indexes.{LsasDifferAmong}
use Rattle.active_ranges.specs.Active.{IsActiveIn}
use Rattle.external.specs.Inputs.{ExternalInputsValue}
use Rattle.external.specs.Externals.{ExternalValue, IsExternalOf}

-- the inputs differ in no more than is named
pub record InputsDifferAmong (keys : List (Scope × Key)) (dests : List Dest) (old new : ExternalInputsValue) : Type 0 where
  pub root : new.root ≡ old.root
  pub compat : new.compat ≡ old.compat
  pub areas : new.areas ≡ old.areas
  pub lsas : LsasDifferAmong keys As old.lsas new.lsas
  pub intra : (p : Prefix) → (Contains dests (Net p) → ⊥) → get new.intra.entries p ≡ get old.intra.entries p
  pub ranges : (p : Prefix) → (Contains dests (Net p) → ⊥) → IsActiveIn new.active p ↔ IsActiveIn old.active p
  pub inter : (d : Dest) → (Contains dests d → ⊥) → get new.inter.entries d ≡ get old.inter.entries d
  pub routers : (r : ℕ) → (Contains dests (Router r) → ⊥) → (area : ℕ) → reached_at new.intra.areas area r ≡ reached_at old.intra.areas area r

-- the routes belong to earlier inputs, which differ from these in no more than is named
abbrev pub AreRoutesBehind : List (Scope × Key) → List Dest → ExternalInputsValue → ExternalValue → Type 0
AreRoutesBehind keys dests v w = (before : ExternalInputsValue) × IsExternalOf before w × InputsDifferAmong keys dests before v

-- the result of the destination differs: the entry of a network, the preferred entry of a router
abbrev pub DiffersAt : ExternalValue → ExternalValue → Dest → Type 0
DiffersAt old new (Net p) = get new.entries p ≢ get old.entries p
DiffersAt old new (Router r) = get new.preferred r ≢ get old.preferred r
