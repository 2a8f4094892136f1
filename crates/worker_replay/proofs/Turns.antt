-- Dealing to lists in turn, and taking in turn.
use Rattle.std.proofs.Common.{◌≡◌, ℕ, zero, suc, ◌<◌, ◌≤◌, ◌+◌, List, [], ◌∷◌, ◌++◌, length, map, take, drop, reverse, All, Option, Some, None, option_to_list, IsSome, slice_index_or, slice_set, refl, sym, ap, subst, ◌∙◌, arith, append_assoc, append-nil, take-append-drop}
use Rattle.std.specs.Prelude.{Result}
use Rattle.std.specs.List.{AllZip}
use Rattle.std.proofs.lemmas.List.{reverse-append, reverse-reverse, map-append, nil_from_length}
use Rattle.std.proofs.lemmas.List.Elements.{All-head}
use Rattle.event_state.specs.declared.event.Event.{Event}
use Rattle.publication.specs.Names.{Name}
use Rattle.engine.specs.Answers.{AreAnswered}
use Rattle.engine.specs.declared.answer.Answer.{Answer}
use Rattle.engine.specs.declared.answer.Refused.{Refused}
use Rattle.worker_replay.specs.Runs.{Answers}
use Rattle.worker_replay.specs.Dealing.{IsDealt, AreAnsweredDealt, AreAnswersTaken}

-- the rest after all but one
pub last_one : {A : Type 0} (n : ℕ) (xs : List A) → length xs ≡ n + 1 → (last : A) × (drop n xs ≡ last ∷ [])
last_one zero [] is = absurd (omega arith)
last_one zero (x ∷ []) is = (x, refl)
last_one zero (x ∷ y ∷ xs) is = absurd (omega arith)
last_one (suc n) [] is = absurd (omega arith)
last_one (suc n) (x ∷ xs) is = last_one n xs (omega arith)

pub backwards_more : {A : Type 0} (xs : List A) (x : A) → reverse (xs ++ x ∷ []) ≡ x ∷ reverse xs
backwards_more xs x = reverse-append xs (x ∷ [])

-- ---- dealing

-- an event that comes before all that were dealt
pub dealt_before : {X : Type 0} (f : X → List Event) (events : List Event) (e : Event) (lists front : List X) (last new : X) → lists ≡ front ++ last ∷ [] → f new ≡ e ∷ f last
    → IsDealt events (map f lists) → IsDealt (e ∷ events) (map f (new ∷ front))
dealt_before f events e lists front last new whole is dealt =
    (f last, map f front, ap (λ w. w ∷ map f front) is, subst (IsDealt events) (ap (map f) whole ∙ map-append f front (last ∷ [])) dealt)

-- the lists turn by one, and the event is put before those of the first, which was the last
pub turned_and_dealt : {X : Type 0} (f : X → List Event) (events : List Event) (e : Event) (lists turned : List X) (was new : X) (n : ℕ) → length lists ≡ n + 1 → turned ≡ drop n lists ++ take n lists
    → was ≡ slice_index_or turned 0 was → f new ≡ e ∷ f was → IsDealt events (map f lists) → IsDealt (e ∷ events) (map f (slice_set turned 0 new))
turned_and_dealt f events e lists turned was new n count turns here put dealt =
    let (last, one) = last_one n lists count in
    let same : turned ≡ last ∷ take n lists = turns ∙ ap (λ l. l ++ take n lists) one in
    let is_last : was ≡ last = here ∙ ap (λ l. slice_index_or l 0 was) same in
    let whole : lists ≡ take n lists ++ last ∷ [] = sym (take-append-drop n lists) ∙ ap (λ l. take n lists ++ l) one in
    subst (λ l. IsDealt (e ∷ events) (map f (slice_set l 0 new))) (sym same)
    (dealt_before f events e lists (take n lists) last new whole (put ∙ ap (λ x. e ∷ f x) is_last) dealt)

-- these events were dealt, and those before them are left
pub record Dealing (events left : List Event) (lists : List (List Event)) : Type 0 where
  pub done : List Event
  pub whole : events ≡ left ++ done
  pub dealt : IsDealt done lists

pub dealing_none : (events : List Event) (lists : List (List Event)) → IsDealt [] lists → Dealing events events lists
dealing_none events lists dealt = record { done = []; whole = sym (append-nil events); dealt = dealt }

pub dealing_more : (events left less : List Event) (lists more : List (List Event)) (e : Event) → Dealing events left lists → left ≡ less ++ e ∷ [] → ((done : List Event) → IsDealt done lists → IsDealt (e ∷ done) more) → Dealing events less more
dealing_more events left less lists more e h next step =
    record { done = e ∷ h.done; whole = h.whole ∙ ap (λ w. w ++ h.done) next ∙ append_assoc less (e ∷ []) h.done; dealt = step h.done h.dealt }

pub dealing_all : (events left : List Event) (lists same : List (List Event)) → Dealing events left lists → left ≡ [] → same ≡ lists → IsDealt events same
dealing_all events left lists same h none is =
    subst (IsDealt events) (sym is) (subst (λ w. IsDealt w lists) (sym (h.whole ∙ ap (λ w. w ++ h.done) none)) h.dealt)

-- ---- taking

zip_more : {A B : Type 0} (R : A → B → Type 0) (xs : List A) (ys : List B) (x : A) (y : B) → AllZip R xs ys → R x y → AllZip R (xs ++ x ∷ []) (ys ++ y ∷ [])
zip_more R [] [] x y all one = (one, tt)
zip_more R [] (b ∷ ys) x y all one = absurd all
zip_more R (a ∷ xs) [] x y all one = absurd all
zip_more R (a ∷ xs) (b ∷ ys) x y all one = (all.0, zip_more R xs ys x y all.1 one)

-- the first list has nothing left
nothing_left : (name : Name) (events : List Event) (others : List Answers) → AreAnsweredDealt name events ([] ∷ others) → AreAnswersTaken name events None (others ++ [] ∷ [])
nothing_left name [] others h = refl
nothing_left name (e ∷ events) others h =
    let (first, rest, is, dealt) = h.dealt in
    absurd ((subst (λ (lists : List (List Event)). AllZip (AreAnswered name) lists ([] ∷ others)) is h.answered).0)

none_dealt : (name : Name) (answer : Result Answer Refused) (left : Answers) (others : List Answers) (lists : List (List Event)) → All (λ list. list ≡ []) lists
    → AllZip (AreAnswered name) lists ((answer ∷ left) ∷ others) → ⊥
none_dealt name answer left others [] dealt answered = answered
none_dealt name answer left others (list ∷ lists) dealt answered =
    subst (λ (w : List Event). AreAnswered name w (answer ∷ left)) (All-head (λ (w : List Event). w ≡ []) list lists dealt) answered.0

-- an answer is taken from the first list
one_taken : (name : Name) (events : List Event) (answer : Result Answer Refused) (left : Answers) (others : List Answers) → AreAnsweredDealt name events ((answer ∷ left) ∷ others)
    → AreAnswersTaken name events (Some answer) (others ++ left ∷ [])
one_taken name [] answer left others h = absurd (none_dealt name answer left others h.lists h.dealt h.answered)
one_taken name (e ∷ events) answer left others h =
    let (first, rest, is, dealt) = h.dealt in
    let zipped : AllZip (AreAnswered name) ((e ∷ first) ∷ rest) ((answer ∷ left) ∷ others) = subst (λ (lists : List (List Event)). AllZip (AreAnswered name) lists ((answer ∷ left) ∷ others)) is h.answered in
    (zipped.0.0, record { lists = rest ++ first ∷ []; dealt = dealt; answered = zip_more (AreAnswered name) rest others first left zipped.1 zipped.0.1 })

none_there : (xs : Answers) → (0 < length xs → IsSome {T = Result Answer Refused} None) → xs ≡ []
none_there [] h = refl
none_there (x ∷ xs) h = let wrong = h (omega arith) in absurd (cc wrong)

-- the last answer of the first list is taken, with each list kept backwards, and the list is then
-- the last
module _ {X : Type 0} (items : X → Answers) (name : Name) (events : List Event) where
  abbrev turned : X → Answers
  turned x = reverse (items x)

  taken_first : (l left : X) (ls : List X) (answer : Option (Result Answer Refused)) → items l ≡ items left ++ option_to_list answer → (0 < length (items l) → IsSome answer)
      → AreAnsweredDealt name events (map turned (l ∷ ls)) → AreAnswersTaken name events answer (map turned (ls ++ left ∷ []))
  taken_first l left ls None is some h =
      let none : items l ≡ [] = none_there (items l) some in
      let same : items left ≡ [] = sym (append-nil (items left)) ∙ sym is ∙ none in
      subst (AreAnswersTaken name events None) (ap (λ w. map turned ls ++ reverse w ∷ []) (sym same) ∙ sym (map-append turned ls (left ∷ [])))
      (nothing_left name events (map turned ls) (subst (λ (w : Answers). AreAnsweredDealt name events (reverse w ∷ map turned ls)) none h))
  taken_first l left ls (Some answer) is some h =
      let first : turned l ≡ answer ∷ turned left = ap reverse is ∙ backwards_more (items left) answer in
      subst (AreAnswersTaken name events (Some answer)) (sym (map-append turned ls (left ∷ [])))
      (one_taken name events answer (turned left) (map turned ls) (subst (λ (w : Answers). AreAnsweredDealt name events (w ∷ map turned ls)) first h))

  pub taken_and_turned : (lists : List X) (was left : X) (answer : Option (Result Answer Refused)) → 0 < length lists → was ≡ slice_index_or lists 0 was → items was ≡ items left ++ option_to_list answer
      → (0 < length (items was) → IsSome answer) → AreAnsweredDealt name events (map turned lists)
      → AreAnswersTaken name events answer (map turned (drop 1 (slice_set lists 0 left) ++ take 1 (slice_set lists 0 left)))
  taken_and_turned [] was left answer some here is found h = absurd (omega arith)
  taken_and_turned (l ∷ ls) was left answer some here is found h =
      taken_first l left ls answer (ap items (sym here) ∙ is) (subst (λ x. 0 < length (items x) → IsSome answer) here found) h

-- no lists, so no events
pub none_taken : (name : Name) (events : List Event) → AreAnsweredDealt name events [] → AreAnswersTaken name events None []
none_taken name [] h = refl
none_taken name (e ∷ events) h =
    let (first, rest, is, dealt) = h.dealt in
    subst (λ (lists : List (List Event)). AllZip (AreAnswered name) lists []) is h.answered

-- ---- the answers that were taken so far

pub record Taking (name : Name) (events : List Event) (answers : Answers) (left : List Answers) (count : ℕ) : Type 0 where
  pub rest : List Event
  pub counted : length rest + count ≡ length events
  pub dealt : AreAnsweredDealt name rest left
  pub goes : (more : Answers) → AreAnswered name rest more → AreAnswered name events (answers ++ more)

pub taking_none : (name : Name) (events : List Event) (left : List Answers) → AreAnsweredDealt name events left → Taking name events [] left 0
taking_none name events left dealt = record { rest = events; counted = omega arith; dealt = dealt; goes = λ more h. h }

-- the answer of the first event that is left is taken
taking_next : (name : Name) (events rest : List Event) (answers : Answers) (left : List Answers) (count : ℕ) (answer : Result Answer Refused) → length rest + count ≡ length events
    → ((more : Answers) → AreAnswered name rest more → AreAnswered name events (answers ++ more)) → AreAnswersTaken name rest (Some answer) left → Taking name events (answers ++ answer ∷ []) left (count + 1)
taking_next name events [] answers left count answer counted goes taken = absurd cc
taking_next name events (e ∷ rest) answers left count answer counted goes taken = record {
  rest = rest;
  counted = omega arith;
  dealt = taken.1;
  goes = λ more h. subst (AreAnswered name events) (sym (append_assoc answers (answer ∷ []) more)) (goes (answer ∷ more) (taken.0, h));
}

pub taking_more : (name : Name) (events : List Event) (answers : Answers) (before left : List Answers) (count : ℕ) (answer : Result Answer Refused) → Taking name events answers before count
    → ((rest : List Event) → AreAnsweredDealt name rest before → AreAnswersTaken name rest (Some answer) left) → Taking name events (answers ++ answer ∷ []) left (count + 1)
taking_more name events answers before left count answer h taken = taking_next name events h.rest answers left count answer h.counted h.goes (taken h.rest h.dealt)

all_of : (name : Name) (events rest : List Event) (answers : Answers) → rest ≡ [] → ((more : Answers) → AreAnswered name rest more → AreAnswered name events (answers ++ more)) → AreAnswered name events answers
all_of name events rest answers none goes = subst (AreAnswered name events) (append-nil answers) (goes [] (subst (λ w. AreAnswered name w []) (sym none) tt))

none_left : (name : Name) (rest : List Event) (left : List Answers) → AreAnswersTaken name rest None left → rest ≡ []
none_left name [] left taken = refl
none_left name (e ∷ rest) left taken = absurd taken

-- there is none to take
pub taking_stopped : (name : Name) (events : List Event) (answers : Answers) (before left : List Answers) (count : ℕ) → Taking name events answers before count
    → ((rest : List Event) → AreAnsweredDealt name rest before → AreAnswersTaken name rest None left) → AreAnswered name events answers
taking_stopped name events answers before left count h taken = all_of name events h.rest answers (none_left name h.rest left (taken h.rest h.dealt)) h.goes

-- as many were taken as there are events
pub taking_all : (name : Name) (events : List Event) (answers : Answers) (left : List Answers) (count : ℕ) → Taking name events answers left count → length events ≤ count → AreAnswered name events answers
taking_all name events answers left count h all = all_of name events h.rest answers (nil_from_length h.rest (omega (arith, h.counted))) h.goes

-- ---- lists reversed

-- each list so far was reversed
pub record Reversing {T : Type 0} {X : Type 0} (items : X → List T) (all rest now : List X) : Type 0 where
  pub done : List X
  pub whole : all ≡ done ++ rest
  pub reversed : map items now ≡ map (λ x. reverse (items x)) done

module _ {T : Type 0} {X : Type 0} (items : X → List T) where
  abbrev back : X → List T
  back x = reverse (items x)

  pub reversing_none : (all rest : List X) → all ≡ rest → Reversing items all rest []
  reversing_none all rest is = record { done = []; whole = is; reversed = refl }

  pub reversing_more : (all rest more now then : List X) (x y : X) → Reversing items all rest now → rest ≡ x ∷ more → items y ≡ reverse (items x) → then ≡ now ++ y ∷ [] → Reversing items all more then
  reversing_more all rest more now then x y h next is put = record {
    done = h.done ++ x ∷ [];
    whole = h.whole ∙ ap (λ w. h.done ++ w) next ∙ sym (append_assoc h.done (x ∷ []) more);
    reversed = ap (map items) put ∙ map-append items now (y ∷ []) ∙ (λ i. h.reversed i ++ is i ∷ []) ∙ sym (map-append back h.done (x ∷ []));
  }

  pub reversing_all : (all rest now : List X) → Reversing items all rest now → rest ≡ [] → map items now ≡ map back all
  reversing_all all rest now h none = h.reversed ∙ ap (map back) (sym (h.whole ∙ ap (λ w. h.done ++ w) none ∙ append-nil h.done))

  -- a list that is reversed twice is unchanged
  pub back_again : (now all : List X) → map items now ≡ map back all → map back now ≡ map items all
  back_again [] [] same = refl
  back_again [] (y ∷ all) same = absurd cc
  back_again (x ∷ now) [] same = absurd cc
  back_again (x ∷ now) (y ∷ all) same =
      let here : items x ≡ back y = cc in
      let rest : map items now ≡ map back all = cc in
      λ i. (ap reverse here ∙ reverse-reverse (items y)) i ∷ back_again now all rest i

  pub as_many : (now all : List X) → map items now ≡ map back all → length now ≡ length all
  as_many [] [] same = refl
  as_many [] (y ∷ all) same = absurd cc
  as_many (x ∷ now) [] same = absurd cc
  as_many (x ∷ now) (y ∷ all) same =
      let rest : map items now ≡ map back all = cc in
      ap suc (as_many now all rest)
