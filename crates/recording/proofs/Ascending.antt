-- A list ascends where each of its items is below the next.
use Rattle.std.proofs.Common.{◌≡◌, ◌∙◌, ◌<◌, ◌+◌, ◌↔◌, List, [], ◌∷◌, ℕ, Bool, true, false, cond, ◌==◌, nat_lt, IsTrue, Ordering, length, map, get_or, ap, refl, arith}
use Rattle.std.specs.declared.cmp.Ordering.TheVariants.{Less, Equal, Greater}
use Rattle.std.specs.Cmp.{IsTotalOrder}
use Rattle.std.specs.List.{AllAdjacentBelow, IsAllAdjacentAnswer}
use Rattle.std.specs.List.Sorted.{IsStrictlySortedBy}
use Rattle.std.specs.Ordering.{nat_cmp, is_lt}
use Rattle.std.proofs.lemmas.Bool.{false≢true}
use Rattle.std.proofs.lemmas.List.{get_or-map, length-map}
use Rattle.std.proofs.lemmas.Map.Keys.{sorted_from_all_adjacent, Less-from_sorted}

first_of_tests : (below same : Bool) → below ≡ is_lt (cond below Less (cond same Equal Greater))
first_of_tests true same = refl
first_of_tests false true = refl
first_of_tests false false = refl

-- `<` of numbers is their order
pub lt_is : (a b : ℕ) → nat_lt a b ≡ is_lt (nat_cmp a b)
lt_is a b = first_of_tests (nat_lt a b) (a == b)

less_from_lt : (o : Ordering) → true ≡ is_lt o → o ≡ Less
less_from_lt Less h = refl
less_from_lt Equal h = cc
less_from_lt Greater h = cc

sorted_from_below : {X K : Type 0} (cmp : K → K → Ordering) → IsTotalOrder cmp → (key : X → K) (xs : List X)
    → AllAdjacentBelow (λ x y. true ≡ is_lt (cmp (key x) (key y))) xs (length xs) → IsStrictlySortedBy cmp (map key xs)
unfolding IsStrictlySortedBy
sorted_from_below cmp total key [] h = tt
sorted_from_below cmp total key (x ∷ xs) h =
    sorted_from_all_adjacent total (map key (x ∷ xs)) (key x) (λ k lt.
    let within : k + 1 < length (x ∷ xs) = omega (arith, length-map xs key) in
    let here = get_or-map key (x ∷ xs) k x (key x) (omega arith) in
    let next = get_or-map key (x ∷ xs) (k + 1) x (key x) within in
    rw (here, next) (less_from_lt _ (h k x within)))

not_sorted : {X K : Type 0} (cmp : K → K → Ordering) (key : X → K) (xs : List X) (k : ℕ) → k + 1 < length xs
    → ((d : X) → false ≡ is_lt (cmp (key (get_or xs k d)) (key (get_or xs (k + 1) d)))) → ¬ IsStrictlySortedBy cmp (map key xs)
not_sorted cmp key [] k within h sorted = omega arith
not_sorted cmp key (x ∷ xs) k within h sorted =
    let here = get_or-map key (x ∷ xs) k x (key x) (omega arith) in
    let next = get_or-map key (x ∷ xs) (k + 1) x (key x) within in
    let less : cmp (get_or (map key (x ∷ xs)) k (key x)) (get_or (map key (x ∷ xs)) (k + 1) (key x)) ≡ Less =
    Less-from_sorted cmp (map key (x ∷ xs)) k (k + 1) (key x) sorted (omega arith) (omega (arith, length-map xs key)) in
    false≢true (h x ∙ ap is_lt (rw (here, next) at less))

-- the result of `is_sorted_by` if its closure compares keys
pub ascends : {X K : Type 0} (cmp : K → K → Ordering) → IsTotalOrder cmp → (key : X → K) (xs : List X) (r : Bool)
    → IsAllAdjacentAnswer (λ x y b. b ≡ is_lt (cmp (key x) (key y))) xs r → IsTrue r ↔ IsStrictlySortedBy cmp (map key xs)
ascends cmp total key xs true h = (λ _. sorted_from_below cmp total key xs h, λ _. refl)
ascends cmp total key xs false (k, within, h) = (λ answered. absurd (false≢true answered), λ sorted. absurd (not_sorted cmp key xs k within h sorted))
