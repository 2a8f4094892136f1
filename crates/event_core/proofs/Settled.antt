-- Routes after an event: what is kept, the items of the table and what is due have followed, or
-- nothing that is calculated from differs.
use Rattle.std.proofs.Common.{◌≡◌, ℕ, Bool, true, false, true≢false, List, [], refl, sym, subst, ◌∙◌, arith}
use Rattle.ospf_types.specs.declared.key.Key.{Key}
use Rattle.ospf_types.specs.declared.key.Scope.{Scope}
use Rattle.route_table.specs.Tables.{TableValue}
use Rattle.event_state.specs.Held.{AreFit}
use Rattle.event_state.specs.declared.base.Base.{Base}
use Rattle.event_state.specs.Rolls.{since, IsBaseOf}
use Rattle.event_state.specs.States.{State, AreAreasApart, LooksAlike, serial_of}
use Rattle.calculation.specs.Calculations.{IsCalculationOf, IsTableOf}
use Rattle.calculation.specs.Trees.{StatesDifferAmong}
use Rattle.calculation.specs.Summaries.{AreSummariesFor}
use Rattle.calculation.specs.Works.{IsEventWork}
use Rattle.event_core.specs.Following.{RoutesValue, AreRoutesOf, TellsChanges, no_work}
use Rattle.ospf_types.proofs.RangeChanges.{areas_kept}
use Rattle.calculation.proofs.OtherRanges.{apart_kept}
use Rattle.calculation.proofs.Alike.{calculation_alike}
use Rattle.calculation.proofs.Summaries.{due_alike}
use Rattle.event_core.proofs.Followed.{nothing_changes}
use Rattle.event_core.proofs.NoWork.{no_event_work}

-- the changes of the event before are no longer listed
abbrev forgotten : RoutesValue → RoutesValue
forgotten r = record r { work = no_work; changes = []; due_changes = [] }

-- the states differ as named, and look alike where nothing is changed
pub record GoesOn (keys : List (Scope × Key)) (ids : List ℕ) (ranged changed : Bool) (before after : State) : Type 0 where
  pub fit : AreFit before.config.areas before.databases
  pub differ : StatesDifferAmong keys ids ranged before after
  pub alike : changed ≡ false → LooksAlike before after

-- all but the serial of the table is right for the state, and what differs from the routes of
-- before is listed
pub record HasFollowed (t : State) (keys : List (Scope × Key)) (ids : List ℕ) (ranged changed : Bool) (old new : RoutesValue) : Type 0 where
  pub calculation : IsCalculationOf t new.calculation
  pub items : IsTableOf new.calculation new.table.items
  pub summaries : AreSummariesFor t new.calculation new.summaries
  pub exact : TellsChanges old new
  pub bounded : (before : State) → GoesOn keys ids ranged changed before t → AreRoutesOf before old → IsEventWork before t new.work
  pub still : changed ≡ false → (new.work ≡ no_work) × (new.changes ≡ []) × (new.due_changes ≡ [])

forgotten_routes : (s : State) (r : RoutesValue) → AreRoutesOf s r → AreRoutesOf s (forgotten r)
forgotten_routes s r are = record { calculation = are.calculation; table = are.table; serial = are.serial; summaries = are.summaries }

-- no two areas have one Area ID, since at most their ranges are others
pub still_apart : (s t : State) (keys : List (Scope × Key)) (ids : List ℕ) (ranged : Bool) → AreFit s.config.areas s.databases → StatesDifferAmong keys ids ranged s t → AreAreasApart t.config.areas
still_apart s t keys ids ranged fit differ = apart_kept s.config.areas t.config.areas (sym (areas_kept t.config s.config differ.areas)) fit.apart

pub still_routes : (s : State) (old mid : RoutesValue) → mid ≡ forgotten old → AreRoutesOf s old → AreRoutesOf s mid
still_routes s old mid is are = subst (AreRoutesOf s) (sym is) (forgotten_routes s old are)

module _ (t : State) (keys : List (Scope × Key)) (ids : List ℕ) (ranged changed : Bool) (old mid : RoutesValue) (is : mid ≡ forgotten old) where
  pub followed : changed ≡ true → (new : RoutesValue) → IsCalculationOf t new.calculation → IsTableOf new.calculation new.table.items → AreSummariesFor t new.calculation new.summaries → TellsChanges mid new
      → ((before : State) → AreRoutesOf before mid → StatesDifferAmong keys ids ranged before t → IsEventWork before t new.work) → HasFollowed t keys ids ranged changed old new
  followed differs new calculation items summaries exact bounded = record {
    calculation = calculation;
    items = items;
    summaries = summaries;
    exact =
        let told = subst (λ (r : RoutesValue). TellsChanges r new) is exact in
        record { networks = told.networks; due = told.due };
    bounded = λ before goes are. bounded before (still_routes before old mid is are) goes.differ;
    still = λ same. absurd (true≢false (sym differs ∙ same));
  }

  pub stayed : changed ≡ false → AreFit t.config.areas t.databases → (before : State) → GoesOn keys ids ranged changed before t → AreRoutesOf before old → HasFollowed t keys ids ranged changed old mid
  stayed same fit before goes are =
      let alike = calculation_alike before t old.calculation (goes.alike same) fit are.calculation in
      subst (HasFollowed t keys ids ranged changed old) (sym is) (record {
        calculation = alike;
        items = are.table;
        summaries = due_alike before t old.calculation old.summaries (goes.alike same) are.summaries;
        exact = record { networks = nothing_changes old.table.items; due = refl };
        bounded = λ other on others. no_event_work other t old.calculation on.fit fit others.calculation alike;
        still = λ _. (refl, refl, refl);
      })

-- with the serial of the state, the routes belong to the state
pub with_serial : (t : State) (new : RoutesValue) (table : TableValue) → IsCalculationOf t new.calculation → IsTableOf new.calculation new.table.items → AreSummariesFor t new.calculation new.summaries → table ≡ record new.table { serial = serial_of t }
    → AreRoutesOf t (record new { table = table })
with_serial t new table calculation items summaries is =
    subst (λ (v : TableValue). AreRoutesOf t (record new { table = v })) (sym is) (record { calculation = calculation; table = items; serial = refl; summaries = summaries })

-- a roll leaves the routes those of the state
pub routes_since : (s : State) (b : Base) (r : RoutesValue) → IsBaseOf s b → AreFit s.config.areas s.databases → AreRoutesOf s r → AreRoutesOf (since b s) r
routes_since s b r is fit are =
    let alike : LooksAlike s (since b s) = record { config = refl; usable = λ at key. refl; interfaces = refl } in
    record {
      calculation = calculation_alike s (since b s) r.calculation alike fit are.calculation;
      table = are.table;
      serial = omega (arith, are.serial, is.serial);
      summaries = due_alike s (since b s) r.calculation r.summaries alike are.summaries;
    }
