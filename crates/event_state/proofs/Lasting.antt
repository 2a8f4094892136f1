-- The table of refusals with the test of the journal, and without it.
use Rattle.std.proofs.Common.{◌≡◌, ◌⊎◌, Bool, true, false, List, [], ◌∷◌, ◌++◌, Some, None, refl, inl, inr}
use Rattle.ospf_types.specs.FirstOf.{first_of}
use Rattle.event_state.specs.declared.event.Event.{Event}
use Rattle.event_state.specs.declared.refusal.Refusal.{Refusal}
use Rattle.event_state.specs.declared.refusal.Refusal.TheVariants as refusal
use Rattle.event_state.specs.States.{State}
use Rattle.event_state.specs.Refusals.{IsRefusalOf, IsLastingRefusalOf}
use Rattle.event_state.specs.Steps.{early_tests_of, late_tests_of, is_journal_full, refusal_of, lasting_refusal_of}

-- what is refused by none of the tests is refused by none without one of them
pub none_without : {X : Type 0} (xs ys : List (Bool × X)) (test : Bool) (x : X) → first_of (xs ++ (test, x) ∷ ys) ≡ None → first_of (xs ++ ys) ≡ None
none_without [] ys true x h = absurd cc
none_without [] ys false x h = h
none_without ((true, y) ∷ xs) ys test x h = absurd cc
none_without ((false, y) ∷ xs) ys test x h = none_without xs ys test x h

-- a refusal belongs to the table without the test, or that of the test, and then nothing before it
-- refuses
pub some_without : {X : Type 0} (xs ys : List (Bool × X)) (test : Bool) (x r : X) → first_of (xs ++ (test, x) ∷ ys) ≡ Some r → (first_of (xs ++ ys) ≡ Some r) ⊎ ((r ≡ x) × (first_of xs ≡ None))
some_without [] ys true x r h = inr (cc, refl)
some_without [] ys false x r h = inl h
some_without ((true, y) ∷ xs) ys test x r h = inl h
some_without ((false, y) ∷ xs) ys test x r h = some_without xs ys test x r h

-- an event that is taken has no lasting refusal
pub taken_lasts : (s : State) (e : Event) → refusal_of s e ≡ None → lasting_refusal_of s e ≡ None
taken_lasts s e none = none_without (early_tests_of s e) (late_tests_of s e) (is_journal_full s) refusal.JournalFull none

-- a refusal lasts, or it belongs to a full journal, and no early test refuses
pub refused_lasts : (s : State) (e : Event) (r : Refusal) → refusal_of s e ≡ Some r → (lasting_refusal_of s e ≡ Some r) ⊎ ((r ≡ refusal.JournalFull) × (first_of (early_tests_of s e) ≡ None))
refused_lasts s e r some = some_without (early_tests_of s e) (late_tests_of s e) (is_journal_full s) refusal.JournalFull r some

-- a refusal is a lasting one, or it belongs to a full journal
pub refusal_lasts : (s : State) (e : Event) (r : Refusal) → IsRefusalOf s e r → IsLastingRefusalOf s e r
refusal_lasts s e r (inl some) = elim (refused_lasts s e r some) [ inl lasting ↦ inl lasting | inr journal ↦ inr (inr journal) ]
refusal_lasts s e r (inr memory) = inr (inl (memory.0, taken_lasts s e memory.1))
