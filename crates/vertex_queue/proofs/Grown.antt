-- A list of vertices that grows by those of which something holds.
use Rattle.std.proofs.Common.{◌≡◌, ◌≢◌, ℕ, ◌+◌, ◌<◌, ◌≤◌, Bool, true, false, not, eqb, List, [], ◌∷◌, ◌++◌, length, get_or, take, map, Option, Some, None, refl, sym, ap, subst, ◌∙◌, ◌⊎◌, inl, inr}
use Rattle.std.specs.Prelude.{◌↔◌}
use Rattle.std.specs.FinMap.{get}
use Rattle.std.specs.List.{Contains}
use Rattle.std.specs.Option.{option_eq}
use Rattle.std.proofs.lemmas.List.{take_more, take_all, map-append}
use Rattle.std.proofs.lemmas.Bool.Decides.{Decides-eqb}
use Rattle.std.proofs.lemmas.List.Elements.{Contains-append_left, Contains-push, Contains-push_cases}
use Rattle.ospf_types.specs.declared.entry.Vertex.{Vertex}
use Rattle.vertex_queue.specs.Maps.{DistanceMap}
use Rattle.vertex_queue.specs.Differing.{IsFarther, IsGrown, IsNearer}

-- where it holds of one more, and that is pushed
pub grown_push : (now start : List Vertex) (Was Is : Vertex → Type 0) (w : Vertex) → IsGrown now start Was → ((v : Vertex) → Is v ↔ (Was v ⊎ (v ≡ w))) → IsGrown (now ++ w ∷ []) start Is
grown_push now start Was Is w grown more v = (
  λ c. elim (Contains-push_cases now w v c) [
    | inr same ↦ inr ((more v).1 (inr (sym same)))
    | inl was ↦ elim ((grown v).0 was) [ inl first ↦ inl first | inr holds ↦ inr ((more v).1 (inl holds)) ]
  ],
  λ c. elim c [
    | inl first ↦ Contains-append_left now (w ∷ []) v ((grown v).1 (inl first))
    | inr is ↦ elim ((more v).0 is) [ inl was ↦ Contains-append_left now (w ∷ []) v ((grown v).1 (inr was)) | inr same ↦ subst (λ u. Contains (now ++ w ∷ []) u) (sym same) (Contains-push now w) ]
  ],
)

-- where it holds of no more, and nothing is pushed
pub grown_same : (now start : List Vertex) (Was Is : Vertex → Type 0) → IsGrown now start Was → ((v : Vertex) → Is v ↔ Was v) → IsGrown now start Is
grown_same now start Was Is grown same v = (
  λ c. elim ((grown v).0 c) [ inl first ↦ inl first | inr holds ↦ inr ((same v).1 holds) ],
  λ c. elim c [ inl first ↦ (grown v).1 (inl first) | inr is ↦ (grown v).1 (inr ((same v).0 is)) ],
)

-- of one more that was remembered
farther_push : (before : List (Vertex × Option ℕ)) (p : Vertex × Option ℕ) (distances : DistanceMap) (v : Vertex) → IsFarther (before ++ p ∷ []) distances v ↔ (IsFarther before distances v ⊎ ((v ≡ p.0) × (get distances v ≢ p.1)))
farther_push before p distances v = (
  λ far. elim (Contains-push_cases before p (v, far.0) far.1) [
    | inl was ↦ inl (far.0, was, far.2)
    | inr same ↦ inr (ap (λ (q : Vertex × Option ℕ). q.0) (sym same), λ e. far.2 (e ∙ ap (λ (q : Vertex × Option ℕ). q.1) same))
  ],
  λ c. elim c [
    | inl far ↦ (far.0, Contains-append_left before (p ∷ []) (v, far.0) far.1, far.2)
    | inr here ↦ (p.1, subst (λ (q : Vertex × Option ℕ). Contains (before ++ p ∷ []) q) (λ i. (sym here.0 i, p.1)) (Contains-push before p), here.1)
  ],
)

module _ (now start : List Vertex) (before : List (Vertex × Option ℕ)) (p : Vertex × Option ℕ) (distances : DistanceMap) (grown : IsGrown now start (IsFarther before distances)) where
  -- with another distance now, its vertex is pushed
  pub farther_added : (get distances p.0 ≢ p.1) → IsGrown (now ++ p.0 ∷ []) start (IsFarther (before ++ p ∷ []) distances)
  farther_added other = grown_push now start (IsFarther before distances) (IsFarther (before ++ p ∷ []) distances) p.0 grown (λ v. (
    λ far. elim ((farther_push before p distances v).0 far) [ inl was ↦ inl was | inr here ↦ inr here.0 ],
    λ c. (farther_push before p distances v).1 (elim c [ inl was ↦ inl was | inr here ↦ inr (here, subst (λ u. get distances u ≢ p.1) (sym here) other) ]),
  ))

  -- with the same it is not
  pub farther_passed : get distances p.0 ≡ p.1 → IsGrown now start (IsFarther (before ++ p ∷ []) distances)
  farther_passed same = grown_same now start (IsFarther before distances) (IsFarther (before ++ p ∷ []) distances) grown (λ v. (
    λ far. elim ((farther_push before p distances v).0 far) [ inl was ↦ was | inr here ↦ absurd (here.1 (ap (get distances) here.0 ∙ same)) ],
    λ was. (farther_push before p distances v).1 (inl was),
  ))

-- of one more that moved
nearer_push : (moved lost : List Vertex) (w v : Vertex) → IsNearer (moved ++ w ∷ []) lost v ↔ (IsNearer moved lost v ⊎ ((v ≡ w) × (Contains lost v → ⊥)))
nearer_push moved lost w v = (
  λ near. elim (Contains-push_cases moved w v near.0) [ inl was ↦ inl (was, near.1) | inr same ↦ inr (sym same, near.1) ],
  λ c. elim c [ inl near ↦ (Contains-append_left moved (w ∷ []) v near.0, near.1) | inr here ↦ (subst (λ u. Contains (moved ++ w ∷ []) u) (sym here.0) (Contains-push moved w), here.1) ],
)

module _ (now start moved lost : List Vertex) (w : Vertex) (grown : IsGrown now start (IsNearer moved lost)) where
  -- what was not lost is pushed
  pub nearer_added : (Contains lost w → ⊥) → IsGrown (now ++ w ∷ []) start (IsNearer (moved ++ w ∷ []) lost)
  nearer_added kept = grown_push now start (IsNearer moved lost) (IsNearer (moved ++ w ∷ []) lost) w grown (λ v. (
    λ near. elim ((nearer_push moved lost w v).0 near) [ inl was ↦ inl was | inr here ↦ inr here.0 ],
    λ c. (nearer_push moved lost w v).1 (elim c [ inl was ↦ inl was | inr here ↦ inr (here, subst (λ u. Contains lost u → ⊥) (sym here) kept) ]),
  ))

  -- what was lost is not
  pub nearer_passed : Contains lost w → IsGrown now start (IsNearer (moved ++ w ∷ []) lost)
  nearer_passed gone = grown_same now start (IsNearer moved lost) (IsNearer (moved ++ w ∷ []) lost) grown (λ v. (
    λ near. elim ((nearer_push moved lost w v).0 near) [ inl was ↦ was | inr here ↦ absurd (here.1 (subst (λ u. Contains lost u) (sym here.0) gone)) ],
    λ was. (nearer_push moved lost w v).1 (inl was),
  ))

-- what is not true is false
not_true : (b : Bool) → not b ≡ true → b ≡ false
not_true true e = absurd cc
not_true false e = refl

-- what is not false is true
not_false : (b : Bool) → not b ≡ false → b ≡ true
not_false true e = refl
not_false false e = absurd cc

-- the test of two distances decides that they are the same
pub same_by_test : (x y : Option ℕ) → option_eq eqb x y ≡ true → x ≡ y
same_by_test None None passes = refl
same_by_test None (Some y) passes = absurd cc
same_by_test (Some x) None passes = absurd cc
same_by_test (Some x) (Some y) passes = ap Some ((Decides-eqb x y).0 passes)

-- and what is not
pub other_by_test : (x y : Option ℕ) → option_eq eqb x y ≡ false → x ≢ y
other_by_test None None fails = absurd cc
other_by_test None (Some y) fails = λ e. cc
other_by_test (Some x) None fails = λ e. cc
other_by_test (Some x) (Some y) fails = λ e. let number : x ≡ y = cc in let passes = (Decides-eqb x y).1 number in cc

module _ (here found other : Option ℕ) (differs : Bool) (is : found ≡ here) (test : differs ≡ not (option_eq eqb found other)) where
  -- where the test says that they differ, they do
  pub other_if : differs ≡ true → here ≢ other
  other_if passes = subst (λ (x : Option ℕ). x ≢ other) is (other_by_test found other (not_true (option_eq eqb found other) (sym test ∙ passes)))

  -- else they are the same
  pub same_unless : differs ≡ false → here ≡ other
  same_unless fails = sym is ∙ same_by_test found other (not_false (option_eq eqb found other) (sym test ∙ fails))

-- a list of which all was looked at
pub grown_all : {X : Type 0} (now start : List Vertex) (Holds : List X → Vertex → Type 0) (xs : List X) (i : ℕ) → length xs ≤ i → IsGrown now start (Holds (take i xs)) → IsGrown now start (Holds xs)
grown_all now start Holds xs i all grown = subst (λ ys. IsGrown now start (Holds ys)) (take_all i xs all) grown

-- a list of which one more was looked at
pub grown_at : {X : Type 0} (now start : List Vertex) (Holds : List X → Vertex → Type 0) (xs : List X) (i : ℕ) (x : X) → i < length xs → x ≡ get_or xs i x → IsGrown now start (Holds (take i xs ++ x ∷ [])) → IsGrown now start (Holds (take (i + 1) xs))
grown_at {X} now start Holds xs i x within is grown = subst (λ ys. IsGrown now start (Holds ys)) (sym (take_more xs i x within ∙ ap (λ (y : X). take i xs ++ y ∷ []) (sym is))) grown

-- one more that is remembered
pub remembered_next : {X Y : Type 0} (f : X → Y) (first : X) (xs : List X) (i : ℕ) (d : X) (before now : List Y) → i < length xs → before ≡ map f (first ∷ take i xs) → now ≡ before ++ f (get_or xs i d) ∷ [] → now ≡ map f (first ∷ take (i + 1) xs)
remembered_next f first xs i d before now within were pushed =
    pushed ∙ ap (λ ys. ys ++ f (get_or xs i d) ∷ []) were ∙ ap (λ ys. f first ∷ ys) (sym (map-append f (take i xs) (get_or xs i d ∷ []))) ∙ ap (λ ys. f first ∷ map f ys) (sym (take_more xs i d within))

-- and all that is
pub remembered_all : {X Y : Type 0} (f : X → Y) (first : X) (xs : List X) (i : ℕ) (before : List Y) → length xs ≤ i → before ≡ map f (first ∷ take i xs) → before ≡ map f (first ∷ xs)
remembered_all f first xs i before all were = were ∙ ap (λ ys. map f (first ∷ ys)) (take_all i xs all)
