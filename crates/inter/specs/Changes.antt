-- What differs in the inputs of inter-area routes, and what is named of it.
use Rattle.std.specs.Prelude.{ℕ, ◌≡◌, ◌≢◌, ◌↔◌, List, Contains, Some}
use Rattle.std.specs.FinMap.{get}
use Rattle.ospf_types.specs.declared.key.Dest.{Dest}
use Rattle.ospf_types.specs.declared.key.Dest.TheVariants.{Net, Router}
use Rattle.ospf_types.specs.declared.key.Key.{Key}
use Rattle.ospf_types.specs.declared.key.Scope.{Scope}
use Rattle.ospf_types.specs.declared.key.Scope.TheVariants.{Area}
use Rattle.ospf_types.specs.declared.prefix.Prefix.{Prefix}
use Rattle.intra.specs.Intras.{reached_at}
use Rattle.advertised_index.specs.Indexes.{LsasDifferAmong}
use Rattle.active_ranges.specs.Active.{IsActiveIn}
use Rattle.inter.specs.Inputs.{ExaminedValue, InterInputsValue}
use Rattle.inter.specs.Inters.{InterValue, IsInterOf}

-- the inputs differ in no more than is named; of another examined area nothing need be named
pub record InputsDifferAmong (keys : List (Scope × Key)) (dests : List Dest) (old new : InterInputsValue) : Type 0 where
  pub root : new.root ≡ old.root
  pub lsas : (x y : ExaminedValue) → old.examined ≡ Some x → new.examined ≡ Some y → y.area ≡ x.area → LsasDifferAmong keys (Area x.area) x.lsas y.lsas
  pub entries : (p : Prefix) → (Contains dests (Net p) → ⊥) → get new.intra.entries p ≡ get old.intra.entries p
  pub ranges : (p : Prefix) → (Contains dests (Net p) → ⊥) → IsActiveIn new.active p ↔ IsActiveIn old.active p
  pub routers : (r : ℕ) → (Contains dests (Router r) → ⊥) → (area : ℕ) → reached_at new.intra.areas area r ≡ reached_at old.intra.areas area r

-- the routes belong to earlier inputs, which differ from these in no more than is named
abbrev pub AreRoutesBehind : List (Scope × Key) → List Dest → InterInputsValue → InterValue → Type 0
AreRoutesBehind keys dests v w = (before : InterInputsValue) × IsInterOf before w × InputsDifferAmong keys dests before v

-- the entry of the destination differs
abbrev pub DiffersAt : InterValue → InterValue → Dest → Type 0
DiffersAt old new d = get new.entries d ≢ get old.entries d
