-- Lists of which no two elements are alike.
use Rattle.std.proofs.Common.{◌≡◌, ℕ, ◌+◌, ◌<◌, Bool, true, false, List, [], ◌∷◌, ◌++◌, length, get_or, take, drop, refl, sym, ap, ◌∙◌}
use Rattle.std.specs.Prelude.{◌||◌}
use Rattle.std.specs.List.{list_any, Contains}
use Rattle.std.proofs.lemmas.Bool.{or_parts, or_from, false_from_ne_true}
use Rattle.std.proofs.lemmas.List.{take-append-drop, drop_more}
use Rattle.std.proofs.lemmas.List.Folds.{list_any-append, list_any_at}
use Rattle.ospf_types.proofs.Elements.{first_element, later_element}
use Rattle.event_state.specs.BaseFaults.{has_twice}

-- no element passes a test that none of the list does
pub none_passes : {X : Type 0} (p : X → Bool) (xs : List X) (x : X) → list_any p xs ≡ false → Contains xs x → p x ≡ false
none_passes p xs x none c = false_from_ne_true (p x) (λ t. let some : list_any p xs ≡ true = list_any_at p xs c.0 x c.1 (ap p c.2 ∙ t) in let wrong : true ≡ false = sym some ∙ none in absurd cc)

-- where each element fails, none passes
pub all_fail : {X : Type 0} (p : X → Bool) (xs : List X) → ((x : X) → Contains xs x → p x ≡ false) → list_any p xs ≡ false
all_fail p [] fails = refl
all_fail p (x ∷ xs) fails = or_from (p x) (list_any p xs) (fails x (first_element x xs)) (all_fail p xs (λ y c. fails y (later_element x y xs c)))

-- a list is what comes before a place, what is there, and the rest
pub parts_at : {X : Type 0} (xs : List X) (i : ℕ) (x : X) → i < length xs → x ≡ get_or xs i x → xs ≡ take i xs ++ x ∷ drop (i + 1) xs
parts_at {X} xs i x lt is = sym (take-append-drop i xs) ∙ ap (λ (ys : List X). take i xs ++ ys) (drop_more xs i x lt ∙ ap (λ (y : X). y ∷ drop (i + 1) xs) (sym is))

module _ {X : Type 0} (alike : X → X → Bool) where
  -- none of those before an element is like it
  before_unlike : (xs ys : List X) (x : X) → has_twice alike (xs ++ x ∷ ys) ≡ false → list_any (λ y. alike y x) xs ≡ false
  before_unlike [] ys x none = refl
  before_unlike (z ∷ xs) ys x none =
      let parts = or_parts (list_any (alike z) (xs ++ x ∷ ys)) (has_twice alike (xs ++ x ∷ ys)) none in
      let there = or_parts (list_any (alike z) xs) (list_any (alike z) (x ∷ ys)) (sym (list_any-append (alike z) xs (x ∷ ys)) ∙ parts.0) in
      or_from (alike z x) (list_any (λ y. alike y x) xs) (or_parts (alike z x) (list_any (alike z) ys) there.1).0 (before_unlike xs ys x parts.1)

  pub unlike_before : (xs : List X) (i : ℕ) (x : X) → i < length xs → x ≡ get_or xs i x → has_twice alike xs ≡ false → list_any (λ y. alike y x) (take i xs) ≡ false
  unlike_before xs i x lt is none = before_unlike (take i xs) (drop (i + 1) xs) x (ap (has_twice alike) (sym (parts_at xs i x lt is)) ∙ none)

  -- one more that is like none of them
  pub twice_push : (xs : List X) (x : X) → has_twice alike (xs ++ x ∷ []) ≡ (has_twice alike xs || list_any (λ y. alike y x) xs)
  twice_push [] x = refl
  twice_push (z ∷ xs) x =
      (λ i. list_any-append (alike z) xs (x ∷ []) i || twice_push xs x i)
      ∙ exchanged (list_any (alike z) xs) (alike z x) (has_twice alike xs) (list_any (λ y. alike y x) xs)
    where
      exchanged : (a b c d : Bool) → ((a || (b || false)) || (c || d)) ≡ ((a || c) || (b || d))
      exchanged true b c d = refl
      exchanged false true true d = refl
      exchanged false true false d = refl
      exchanged false false c d = refl

  -- a list whose front has two that are alike has them too
  pub twice_front : (xs ys : List X) → has_twice alike xs ≡ true → has_twice alike (xs ++ ys) ≡ true
  twice_front [] ys two = absurd cc
  twice_front (x ∷ xs) ys two =
      elim (list_any (alike x) xs) as (λ b. list_any (alike x) xs ≡ b → has_twice alike (x ∷ (xs ++ ys)) ≡ true) [
        | true ↦ λ e. rw (list_any-append (alike x) xs ys ∙ ap (λ (b : Bool). b || list_any (alike x) ys) e) refl
        | false ↦ λ e.
            let rest : has_twice alike (xs ++ ys) ≡ true = twice_front xs ys (ap (λ (b : Bool). b || has_twice alike xs) (sym e) ∙ two) in
            ap (λ (b : Bool). list_any (alike x) (xs ++ ys) || b) rest ∙ or_true (list_any (alike x) (xs ++ ys))
      ] refl
    where
      or_true : (b : Bool) → (b || true) ≡ true
      or_true true = refl
      or_true false = refl

  -- two lists one after the other
  pub twice_append : (xs ys : List X) → has_twice alike xs ≡ false → has_twice alike ys ≡ false → ((x : X) → Contains xs x → list_any (alike x) ys ≡ false) → has_twice alike (xs ++ ys) ≡ false
  twice_append [] ys one two apart = two
  twice_append (x ∷ xs) ys one two apart =
      let parts = or_parts (list_any (alike x) xs) (has_twice alike xs) one in
      let first : list_any (alike x) (xs ++ ys) ≡ false = list_any-append (alike x) xs ys ∙ or_from (list_any (alike x) xs) (list_any (alike x) ys) parts.0 (apart x (first_element x xs)) in
      or_from (list_any (alike x) (xs ++ ys)) (has_twice alike (xs ++ ys)) first (twice_append xs ys parts.1 two (λ y c. apart y (later_element x y xs c)))
