-- Lists of events across rolls.
--   whole_content, whole_legal, whole_refusal, whole_serial: what is said since the base is said
--     of the whole list
--   rolled_none, rolled_again: before the first roll, and from one to the next
use Rattle.std.proofs.Common.{◌≡◌, ℕ, ◌+◌, List, [], ◌∷◌, ◌++◌, length, Option, Some, None, refl, sym, ap, ◌∙◌, arith, append_assoc, length-append}
use Rattle.std.specs.FinMap.{insert, remove}
use Rattle.ospf_types.specs.Lsa.{key_of}
use Rattle.lsdb.specs.Databases.{Database, aged_out}
use Rattle.event_state.specs.declared.base.Base.{Base}
use Rattle.event_state.specs.declared.event.Event.{Event}
use Rattle.event_state.specs.declared.event.Event.TheVariants as event
use Rattle.event_state.specs.declared.limits.Limits.{Limits}
use Rattle.event_state.specs.States.{State, serial_of, place_of, changed_at_place}
use Rattle.event_state.specs.Steps.{changed_by, step, lasting_refusal_of, refusal_of, opening, run_from, run_of, AreTaken, IsLegalList}
use Rattle.event_state.specs.Held.{AreFit}
use Rattle.event_state.specs.Rolls.{since, IsBaseOf, IsRolled}
use Rattle.event_state.proofs.Bases.{opens_again}
use Rattle.event_state.proofs.Lasting.{taken_lasts}

-- ---- what an event does rests neither on the base nor on the journal

since_place : (b : Base) (s : State) (change : Database → Database) (o : Option ℕ) → since b (changed_at_place s change o) ≡ changed_at_place (since b s) change o
since_place b s change None = refl
since_place b s change (Some k) = refl

pub since_step : (b : Base) (s : State) (e : Event) → since b (step s e) ≡ changed_by (since b s) e
since_step b s (event.Install at l) = since_place b s (λ d. insert d (key_of l) l) (place_of s.config.areas at)
since_step b s (event.Flush at key) = since_place b s (λ d. aged_out d key) (place_of s.config.areas at)
since_step b s (event.Purge at key) = since_place b s (λ d. remove d key) (place_of s.config.areas at)
since_step b s (event.Interface id area address peer up) = refl
since_step b s (event.RangeSet area prefix advertise) = refl
since_step b s (event.RangeDrop area prefix) = refl
since_step b s event.Second = refl

lasting_since : (b : Base) (s : State) (e : Event) → lasting_refusal_of (since b s) e ≡ lasting_refusal_of s e
lasting_since b s (event.Install at l) = refl
lasting_since b s (event.Flush at key) = refl
lasting_since b s (event.Purge at key) = refl
lasting_since b s (event.Interface id area address peer up) = refl
lasting_since b s (event.RangeSet area prefix advertise) = refl
lasting_since b s (event.RangeDrop area prefix) = refl
lasting_since b s event.Second = refl

step_same : (b : Base) (s t : State) (e : Event) → since b s ≡ since b t → since b (step s e) ≡ since b (step t e)
step_same b s t e same = since_step b s e ∙ ap (λ (v : State). changed_by v e) same ∙ sym (since_step b t e)

run_same : (b : Base) (s t : State) (es : List Event) → since b s ≡ since b t → since b (run_from s es) ≡ since b (run_from t es)
run_same b s t [] same = same
run_same b s t (e ∷ es) same = run_same b (step s e) (step t e) es (step_same b s t e same)

lasting_same : (b : Base) (s t : State) (e : Event) → since b s ≡ since b t → lasting_refusal_of s e ≡ lasting_refusal_of t e
lasting_same b s t e same = sym (lasting_since b s e) ∙ ap (λ (v : State). lasting_refusal_of v e) same ∙ lasting_since b t e

taken_same : (b : Base) (s t : State) (es : List Event) → since b s ≡ since b t → AreTaken s es → AreTaken t es
taken_same b s t [] same taken = tt
taken_same b s t (e ∷ es) same taken = (sym (lasting_same b s t e same) ∙ taken.0, taken_same b (step s e) (step t e) es (step_same b s t e same) taken.1)

-- ---- runs one after the other

pub run_append : (s : State) (xs ys : List Event) → run_from s (xs ++ ys) ≡ run_from (run_from s xs) ys
run_append s [] ys = refl
run_append s (x ∷ xs) ys = run_append (step s x) xs ys

pub taken_append : (s : State) (xs ys : List Event) → AreTaken s xs → AreTaken (run_from s xs) ys → AreTaken s (xs ++ ys)
taken_append s [] ys one two = two
taken_append s (x ∷ xs) ys one two = (one.0, taken_append (step s x) xs ys one.1 two)

-- ---- what no event changes

-- the base, the limits and the journal as it grows
pub record IsFurther (s : State) (es : List Event) (t : State) : Type 0 where
  pub base : t.base ≡ s.base
  pub limits : t.limits ≡ s.limits
  pub journal : t.journal ≡ s.journal ++ es

further_place : (s : State) (change : Database → Database) (o : Option ℕ) (e : Event) → IsFurther s (e ∷ []) (record (changed_at_place s change o) { journal = s.journal ++ e ∷ [] })
further_place s change None e = record { base = refl; limits = refl; journal = refl }
further_place s change (Some k) e = record { base = refl; limits = refl; journal = refl }

pub further_step : (s : State) (e : Event) → IsFurther s (e ∷ []) (step s e)
further_step s (event.Install at l) = further_place s (λ d. insert d (key_of l) l) (place_of s.config.areas at) (event.Install at l)
further_step s (event.Flush at key) = further_place s (λ d. aged_out d key) (place_of s.config.areas at) (event.Flush at key)
further_step s (event.Purge at key) = further_place s (λ d. remove d key) (place_of s.config.areas at) (event.Purge at key)
further_step s (event.Interface id area address peer up) = record { base = refl; limits = refl; journal = refl }
further_step s (event.RangeSet area prefix advertise) = record { base = refl; limits = refl; journal = refl }
further_step s (event.RangeDrop area prefix) = record { base = refl; limits = refl; journal = refl }
further_step s event.Second = record { base = refl; limits = refl; journal = refl }

append_none : (xs : List Event) → xs ++ [] ≡ xs
append_none [] = refl
append_none (x ∷ xs) = ap (λ (ys : List Event). x ∷ ys) (append_none xs)

pub further_run : (s : State) (es : List Event) → IsFurther s es (run_from s es)
further_run s [] = record { base = refl; limits = refl; journal = sym (append_none s.journal) }
further_run s (e ∷ es) =
    let one = further_step s e in
    let rest = further_run (step s e) es in
    record {
      base = rest.base ∙ one.base;
      limits = rest.limits ∙ one.limits;
      journal = rest.journal ∙ ap (λ (j : List Event). j ++ es) one.journal ∙ append_assoc s.journal (e ∷ []) es;
    }

-- the serial after these events
pub run_serial : (b : Base) (limits : Limits) (es : List Event) → serial_of (run_of b limits es) ≡ b.serial + length es
run_serial b limits es =
    let is = further_run (opening b limits) es in
    omega (arith, ap (λ (x : Base). x.serial) is.base, ap length is.journal)

-- ---- across a roll

module _ (first : Base) (limits : Limits) (rolled : List Event) (b : Base) (is : IsRolled first limits rolled b) where
  -- a run from the base is a run of the whole list
  pub whole_content : (c : Base) (list : List Event) → since c (run_of b limits list) ≡ since c (run_of first limits (rolled ++ list))
  whole_content c list =
      run_same c (opening b limits) (run_of first limits rolled) list (ap (since c) is.state)
      ∙ ap (since c) (sym (run_append (opening first limits) rolled list))

  -- a legal list since the base is the end of a legal list
  pub whole_legal : (list : List Event) → IsLegalList b limits list → IsLegalList first limits (rolled ++ list)
  whole_legal list legal = taken_append (opening first limits) rolled list is.legal (taken_same b (opening b limits) (run_of first limits rolled) list (ap (since b) is.state) legal)

  -- a refusal since the base is one after the whole list
  pub whole_refusal : (list : List Event) (e : Event) → lasting_refusal_of (run_of b limits list) e ≡ lasting_refusal_of (run_of first limits (rolled ++ list)) e
  whole_refusal list e = lasting_same b (run_of b limits list) (run_of first limits (rolled ++ list)) e (whole_content b list)

  -- serials go on
  pub whole_serial : (list : List Event) → serial_of (run_of b limits list) ≡ first.serial + length (rolled ++ list)
  whole_serial list = omega (arith, run_serial b limits list, is.serial, length-append rolled list)

  -- a roll again
  pub rolled_again : (list : List Event) (next : Base) → IsLegalList b limits list → AreFit (run_of b limits list).config.areas (run_of b limits list).databases → IsBaseOf (run_of b limits list) next
      → IsRolled first limits (rolled ++ list) next
  rolled_again list next legal fit now =
      let same : (run_of b limits list).limits ≡ limits = (further_run (opening b limits) list).limits in
      record {
        legal = whole_legal list legal;
        state = ap (opening next) (sym same) ∙ opens_again (run_of b limits list) next fit now ∙ whole_content next list;
        serial = now.serial ∙ whole_serial list;
      }

-- before the first roll
pub rolled_none : (first : Base) (limits : Limits) → IsRolled first limits [] first
rolled_none first limits = record { legal = tt; state = refl; serial = omega arith }

-- an event that is taken, the journal's test and all, is one more of the legal list
pub taken_more : (b : Base) (limits : Limits) (list : List Event) (e : Event) → IsLegalList b limits list → refusal_of (run_of b limits list) e ≡ None → IsLegalList b limits (list ++ e ∷ [])
taken_more b limits list e legal none = taken_append (opening b limits) list (e ∷ []) legal (taken_lasts (run_of b limits list) e none, tt)
