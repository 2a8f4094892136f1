-- A strictly ascending list, and one more at its end.
use Rattle.std.proofs.Common.{◌≡◌, ℕ, ◌⊎◌, ◌++◌, List, [], ◌∷◌, map, Some, None, All, Ordering, length, ◌-◌, inl, inr, refl, ap, sym, subst, ◌∙◌, arith}
use Rattle.std.specs.declared.cmp.Ordering.TheVariants.{Less}
use Rattle.std.specs.List.{AllByRecursion, slice_get}
use Rattle.std.proofs.lemmas.List.{length_push, map-append}
use Rattle.std.specs.List.Sorted.{IsStrictlySortedBy}
use Rattle.std.specs.Cmp.{IsTotalOrder}
use Rattle.std.proofs.lemmas.List.Elements.{recursion_from_All, All-weaker, All-push}
use Rattle.std.proofs.lemmas.Map.Views.{All-before_last}
use Rattle.recording.specs.Places.{last_of}

-- the last element, if there is one
pub last_cases : {X : Type 0} → (xs : List X) → (xs ≡ []) ⊎ ((front : List X) × (x : X) × (xs ≡ front ++ x ∷ []))
last_cases [] = inl refl
last_cases {X} (x ∷ xs) =
    elim (last_cases xs) [
      | inl e ↦ inr ([], x, ap (λ (t : List X). x ∷ t) e)
      | inr w ↦ inr (x ∷ w.0, w.1, ap (λ (t : List X). x ∷ t) w.2)
    ]

at_end : {X : Type 0} → (front : List X) (x : X) → slice_get (front ++ x ∷ []) (length front) ≡ Some x
at_end [] x = refl
at_end (y ∷ front) x = at_end front x

pub last_of-push : {X : Type 0} → (front : List X) (x : X) → last_of (front ++ x ∷ []) ≡ Some x
last_of-push {X} front x =
    let e : length (front ++ x ∷ []) - 1 ≡ length front = omega (arith, length_push front x) in
    ap (λ (n : ℕ). slice_get (front ++ x ∷ []) n) e ∙ at_end front x

all_push : {K : Type 0} → (P : K → Type 0) (xs : List K) (y : K) → AllByRecursion P xs → P y → AllByRecursion P (xs ++ y ∷ [])
all_push P [] y all h = (h, tt)
all_push P (x ∷ xs) y all h = (all.0, all_push P xs y all.1 h)

module _ {K : Type 0} (R : K → K → Ordering) where
  past_all : (xs : List K) (y : K) → IsStrictlySortedBy R xs → AllByRecursion (λ x. R x y ≡ Less) xs → IsStrictlySortedBy R (xs ++ y ∷ [])
  unfolding IsStrictlySortedBy
  past_all [] y sorted past = (tt, tt)
  past_all (x ∷ xs) y sorted past = (all_push (λ z. R x z ≡ Less) xs y sorted.0 past.0, past_all xs y sorted.1 past.1)

  pub sorted_one : (y : K) → IsStrictlySortedBy R (y ∷ [])
  unfolding IsStrictlySortedBy
  sorted_one y = (tt, tt)

  -- past the last
  pub sorted_push : IsTotalOrder R → (xs : List K) (x y : K) → IsStrictlySortedBy R (xs ++ x ∷ []) → R x y ≡ Less → IsStrictlySortedBy R ((xs ++ x ∷ []) ++ y ∷ [])
  sorted_push total xs x y sorted less =
      let P : K → Type 0 = λ z. R z y ≡ Less in
      let early : All P xs = All-weaker (λ z. R z x ≡ Less) P (λ z h. total.trans z x y h less) xs (All-before_last R xs x sorted) in
      past_all (xs ++ x ∷ []) y sorted (recursion_from_All P (xs ++ x ∷ []) (All-push P xs x early less))

  -- each is past the one before it
  pub sorted_middle : (xs : List K) (x y : K) (ys : List K) → IsStrictlySortedBy R ((xs ++ x ∷ []) ++ y ∷ ys) → R x y ≡ Less
  unfolding IsStrictlySortedBy
  sorted_middle [] x y ys sorted = sorted.0.0
  sorted_middle (z ∷ xs) x y ys sorted = sorted_middle xs x y ys sorted.1

-- the same by a key
module _ {X K : Type 0} (R : K → K → Ordering) (key : X → K) where
  pub sorted_push_by : IsTotalOrder R → (xs : List X) (y : X) → IsStrictlySortedBy R (map key xs) → ((x : X) → last_of xs ≡ Some x → R (key x) (key y) ≡ Less) → IsStrictlySortedBy R (map key (xs ++ y ∷ []))
  sorted_push_by total xs y sorted past =
      let S : List X → Type 0 = λ t. IsStrictlySortedBy R (map key t) in
      let one : S ([] ++ y ∷ []) = sorted_one R (key y) in
      elim (last_cases xs) [
        | inl e ↦ let P : List X → Type 0 = λ t. S (t ++ y ∷ []) in subst P (sym e) one
        | inr w ↦
            let last : last_of xs ≡ Some w.1 = ap (λ (t : List X). last_of t) w.2 ∙ last_of-push w.0 w.1 in
            let at : IsStrictlySortedBy R (map key w.0 ++ key w.1 ∷ []) = subst (IsStrictlySortedBy R) (map-append key w.0 (w.1 ∷ [])) (subst S w.2 sorted) in
            let more = sorted_push R total (map key w.0) (key w.1) (key y) at (past w.1 last) in
            let same : map key ((w.0 ++ w.1 ∷ []) ++ y ∷ []) ≡ (map key w.0 ++ key w.1 ∷ []) ++ key y ∷ [] = simp map-append in
            let P : List X → Type 0 = λ t. S (t ++ y ∷ []) in
            subst P (sym w.2) (subst (IsStrictlySortedBy R) (sym same) more)
      ]

  pub sorted_next_by : (xs : List X) (y : X) (ys : List X) → IsStrictlySortedBy R (map key (xs ++ y ∷ ys)) → (x : X) → last_of xs ≡ Some x → R (key x) (key y) ≡ Less
  sorted_next_by xs y ys sorted x last =
      let P : List X → Type 0 = λ t. IsStrictlySortedBy R (map key (t ++ y ∷ ys)) in
      elim (last_cases xs) [
        | inl e ↦
            let none : last_of xs ≡ None = ap (λ (t : List X). last_of t) e in
            cc
        | inr w ↦
            let some : last_of xs ≡ Some w.1 = ap (λ (t : List X). last_of t) w.2 ∙ last_of-push w.0 w.1 in
            let is : w.1 ≡ x = cc in
            let same : map key ((w.0 ++ w.1 ∷ []) ++ y ∷ ys) ≡ (map key w.0 ++ key w.1 ∷ []) ++ key y ∷ map key ys = simp map-append in
            let less = sorted_middle R (map key w.0) (key w.1) (key y) (map key ys) (subst (IsStrictlySortedBy R) same (subst P w.2 sorted)) in
            subst (λ (z : X). R (key z) (key y) ≡ Less) is less
      ]
