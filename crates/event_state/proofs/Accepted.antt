-- Facts of an event that no test refuses.
use Rattle.std.proofs.Common.{◌≡◌, ◌<◌, Bool, true, false, List, [], ◌∷◌, ◌++◌, length, Option, Some, None, refl, sym, ap, ◌∙◌, arith}
use Rattle.std.specs.Prelude.{nat_le, is_none, option_map, option_and_then, if◌then◌else◌}
use Rattle.std.specs.FinMap.{get, empty}
use Rattle.std.proofs.Common.{get_or, drop, ℕ}
use Rattle.std.proofs.lemmas.Bool.{or_parts}
use Rattle.std.proofs.lemmas.Bool.Decides.{nat_tests}
use Rattle.ospf_types.specs.FirstOf.{first_of}
use Rattle.ospf_types.specs.declared.key.Key.{Key}
use Rattle.ospf_types.specs.declared.key.Scope.{Scope}
use Rattle.ospf_types.specs.Lsa.{Lsa, key_of}
use Rattle.lsdb.specs.Databases.{Database, install_refusal_of, purge_refusal_of, is_older_than, is_same_as}
use Rattle.lsdb.specs.declared.refusal.InstallRefusal.TheVariants as install
use Rattle.lsdb.specs.declared.refusal.PurgeRefusal.TheVariants as purge
use Rattle.event_state.specs.declared.event.Event.{Event}
use Rattle.event_state.specs.declared.event.Event.TheVariants as event
use Rattle.event_state.specs.declared.refusal.Refusal.{Refusal}
use Rattle.event_state.specs.declared.refusal.Refusal.TheVariants as refusal
use Rattle.event_state.specs.Bases.{most_serial}
use Rattle.event_state.specs.States.{State, serial_of, place_of}
use Rattle.event_state.specs.Steps.{IsAccepted, refusal_of, lasting_refusal_of, early_tests_of, late_tests_of, lacks_area, is_not_own, is_misplaced, is_older, is_repeated, has_no_lsa, is_young, is_full, is_full_in, is_journal_full, is_address_taken, is_range_overlapping, has_no_range, is_range_full, held_at, limit_of, is_below_max_age}
use Rattle.event_state.proofs.Lasting.{taken_lasts}

passed : {X : Type 0} (test : Bool) (x : X) (rest : List (Bool × X)) → first_of ((test, x) ∷ rest) ≡ None → (test ≡ false) × (first_of rest ≡ None)
passed true x rest e = absurd cc
passed false x rest e = (refl, e)

abbrev lasting_tests : State → Event → List (Bool × Refusal)
lasting_tests s e = early_tests_of s e ++ late_tests_of s e

-- whatever the journal
pub accepted_lasting : (s : State) (e : Event) → lasting_refusal_of s e ≡ None → IsAccepted s e
accepted_lasting s e none =
    let area = passed (lacks_area s e) refusal.NoArea (drop 1 (lasting_tests s e)) none in
    let scope = passed (is_misplaced e) refusal.Scope (drop 2 (lasting_tests s e)) area.1 in
    let older = passed (is_older s e) refusal.Older (drop 3 (lasting_tests s e)) scope.1 in
    let repeated = passed (is_repeated s e) refusal.Same (drop 4 (lasting_tests s e)) older.1 in
    let there = passed (has_no_lsa s e) refusal.NoLsa (drop 5 (lasting_tests s e)) repeated.1 in
    let own = passed (is_not_own s e) refusal.NotOwn (drop 6 (lasting_tests s e)) there.1 in
    let young = passed (is_young s e) refusal.NotMaxAge (drop 7 (lasting_tests s e)) own.1 in
    let full = passed (is_full s e) refusal.Full (drop 8 (lasting_tests s e)) young.1 in
    let taken = passed (is_address_taken s e) refusal.AddressTaken (drop 9 (lasting_tests s e)) full.1 in
    let overlaps = passed (is_range_overlapping s e) refusal.RangeOverlaps (drop 10 (lasting_tests s e)) taken.1 in
    let absent = passed (has_no_range s e) refusal.NoRange (drop 11 (lasting_tests s e)) overlaps.1 in
    let many = passed (is_range_full s e) refusal.RangeFull [] absent.1 in
    record {
      area = area.0;
      placed = scope.0;
      newer = older.0;
      differs = repeated.0;
      there = there.0;
      aged = young.0;
      room = full.0;
      apart = taken.0;
      clear = overlaps.0;
      present = absent.0;
      few = many.0;
    }

pub accepted : (s : State) (e : Event) → refusal_of s e ≡ None → IsAccepted s e
accepted s e none = accepted_lasting s e (taken_lasts s e none)

not_last : (n m : ℕ) → nat_le m n ≡ false → n < m
not_last n m e = grind (arith, nat_tests)

-- where no test refuses, there is a serial left
pub serial_left : (s : State) (e : Event) → refusal_of s e ≡ None → serial_of s < most_serial
serial_left s e none =
    let behind : first_of ((is_journal_full s, refusal.JournalFull) ∷ late_tests_of s e) ≡ None = none_behind (early_tests_of s e) ((is_journal_full s, refusal.JournalFull) ∷ late_tests_of s e) none in
    let full = passed (is_journal_full s) refusal.JournalFull (late_tests_of s e) behind in
    not_last (serial_of s) most_serial (or_parts (nat_le s.limits.events (length s.journal)) (nat_le most_serial (serial_of s)) full.0).1
  where
    none_behind : {X : Type 0} (xs ys : List (Bool × X)) → first_of (xs ++ ys) ≡ None → first_of ys ≡ None
    none_behind [] ys h = h
    none_behind ((true, x) ∷ xs) ys h = absurd cc
    none_behind ((false, x) ∷ xs) ys h = none_behind xs ys h

none_of_three : (a b c : Bool) → a ≡ false → b ≡ false → c ≡ false → first_of ((a, install.Older) ∷ (b, install.Same) ∷ (c, install.Full) ∷ []) ≡ None
none_of_three true b c e f g = absurd cc
none_of_three false true c e f g = absurd cc
none_of_three false false true e f g = absurd cc
none_of_three false false false e f g = refl

old_enough : (o : Option Lsa) → is_none o ≡ false → is_below_max_age o ≡ false → purge_refusal_of o ≡ None
old_enough None there aged = absurd cc
old_enough (Some l) there aged = ap (λ (b : Bool). if b then Some purge.NotMaxAge else None) aged

module _ (s : State) (at : Scope) (k : ℕ) (place : place_of s.config.areas at ≡ Some k) where
  abbrev here : Database
  here = get_or s.databases k empty

  -- what is held under a key is what the database at the place has
  held_is : (key : Key) → held_at s at key ≡ get here key
  held_is key = ap (λ (o : Option ℕ). option_and_then (λ (d : Database). get d key) (option_map (λ j. get_or s.databases j empty) o)) place

  -- an LSA whose install is taken is not refused by its database
  pub install_fits : (lsa : Lsa) → IsAccepted s (event.Install at lsa) → install_refusal_of here (limit_of s.limits at) lsa ≡ None
  install_fits lsa a =
      none_of_three _ _ _
      (sym (ap (is_older_than lsa) (held_is (key_of lsa))) ∙ a.newer)
      (sym (ap (is_same_as lsa) (held_is (key_of lsa))) ∙ a.differs)
      (sym (ap (λ (o : Option ℕ). is_full_in (limit_of s.limits at) lsa (option_map (λ j. get_or s.databases j empty) o)) place) ∙ a.room)

  -- what is purged is at MaxAge
  pub purge_allowed : (key : Key) → IsAccepted s (event.Purge at key) → purge_refusal_of (get here key) ≡ None
  purge_allowed key a = old_enough (get here key) (sym (ap is_none (held_is key)) ∙ a.there) (sym (ap is_below_max_age (held_is key)) ∙ a.aged)
