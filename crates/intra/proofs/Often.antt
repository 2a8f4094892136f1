-- How often an element is in a list.
use Rattle.std.proofs.Common.{◌≡◌, ◌≢◌, ◌==◌, inl, inr, ℕ, suc, ◌+◌, ◌<◌, Bool, true, false, cond, List, [], ◌∷◌, ◌++◌, length, take, get_or, Option, Some, None, refl, sym, ap, subst, ◌∙◌, arith}
use Rattle.std.specs.Prelude.{◌↔◌, IsSome, is_some, count_by, if◌then◌else◌}
use Rattle.std.specs.List.{AllPairs, Contains}
use Rattle.std.proofs.lemmas.Bool.{false≢true}
use Rattle.std.proofs.lemmas.Bool.Decides.{Decides-eqb}
use Rattle.std.proofs.lemmas.List.{take_more}
use Rattle.std.proofs.lemmas.List.Recursion.{is_count_by}
use Rattle.ospf_types.proofs.Elements.{no_element, first_element, later_element, first_or_later}

module _ {X : Type 0} (test : X → Bool) where
  -- the count from the front
  abbrev times : List X → ℕ
  times [] = 0
  times (x ∷ xs) = cond (test x) (1 + times xs) (times xs)

  times_is : (xs : List X) → times xs ≡ count_by test xs
  times_is = is_count_by times test refl (λ _ _. refl)

  times_append : (xs ys : List X) → times (xs ++ ys) ≡ times xs + times ys
  times_append [] ys = omega arith
  times_append (x ∷ xs) ys =
      elim (test x) as (λ b. cond b (1 + times (xs ++ ys)) (times (xs ++ ys)) ≡ cond b (1 + times xs) (times xs) + times ys) [ true ↦ omega (arith, times_append xs ys) | false ↦ times_append xs ys ]

  pub count_append : (xs ys : List X) → count_by test (xs ++ ys) ≡ count_by test xs + count_by test ys
  count_append xs ys = sym (times_is (xs ++ ys)) ∙ times_append xs ys ∙ (λ i. times_is xs i + times_is ys i)

  -- of one more
  pub count_more : (xs : List X) (i : ℕ) (x : X) → i < length xs → x ≡ get_or xs i x → count_by test (take (i + 1) xs) ≡ count_by test (take i xs) + (if test x then 1 else 0)
  count_more xs i x lt at =
      ap (count_by test) (take_more xs i x lt ∙ ap (λ (z : X). take i xs ++ z ∷ []) (sym at)) ∙ count_append (take i xs) (x ∷ []) ∙ ap (λ n. count_by test (take i xs) + n) (sym (times_is (x ∷ [])))

-- ---- where none occurs twice

module _ {X : Type 0} (R : X → X → Type 0) (x : X) (xs : List X) (apart : AllPairs R (x ∷ xs)) where
  apart_here : (y : X) → Contains xs y → R x y
  apart_here y c = subst (R x) c.2 (apart 0 (suc c.0) y (omega arith) (omega (arith, c.1)))

  apart_later : AllPairs R xs
  apart_later i j d lt within = apart (suc i) (suc j) d (omega (arith, lt)) (omega (arith, within))

module _ (r : ℕ) where
  abbrev is : ℕ → Bool
  is k = k == r

  times_none : (ks : List ℕ) → (Contains ks r → ⊥) → times is ks ≡ 0
  times_none [] absent = refl
  times_none (k ∷ ks) absent =
      elim (is k) as (λ b. is k ≡ b → cond b (1 + times is ks) (times is ks) ≡ 0) [
        | true ↦ λ e. absurd (absent (subst (Contains (k ∷ ks)) ((Decides-eqb k r).0 e) (first_element k ks)))
        | false ↦ λ e. times_none ks (λ c. absent (later_element k r ks c))
      ] refl

  times_one : (ks : List ℕ) → AllPairs (λ j k. j ≢ k) ks → Contains ks r → times is ks ≡ 1
  times_one [] apart c = absurd (no_element r c)
  times_one (k ∷ ks) apart c =
      elim (is k) as (λ b. is k ≡ b → cond b (1 + times is ks) (times is ks) ≡ 1) [
        | true ↦ λ e. ap (λ n. 1 + n) (times_none ks (λ later. apart_here (λ j k. j ≢ k) k ks apart r later ((Decides-eqb k r).0 e)))
        | false ↦ λ e. elim (first_or_later k r ks c) [
          | inl same ↦ absurd (false≢true (sym e ∙ (Decides-eqb k r).1 (sym same)))
          | inr later ↦ times_one ks (apart_later (λ j k. j ≢ k) k ks apart) later
        ]
      ] refl

  -- of keys, without duplicates, that are there where the option is
  pub count_once : {Y : Type 0} (ks : List ℕ) (o : Option Y) → AllPairs (λ j k. j ≢ k) ks → (Contains ks r ↔ IsSome o) → count_by is ks ≡ (if is_some o then 1 else 0)
  count_once ks None apart there = sym (times_is is ks) ∙ times_none ks (λ c. absurd (let wrong = there.0 c in cc))
  count_once ks (Some y) apart there = sym (times_is is ks) ∙ times_one ks apart (there.1 refl)
