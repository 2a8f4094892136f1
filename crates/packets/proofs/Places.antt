-- The element at a place of a list.
use Rattle.std.proofs.Common.{◌≡◌, ℕ, zero, suc, List, [], ◌∷◌, get_or, set, refl, ap, ◌∙◌, Some}
use Rattle.std.specs.List.{remove, slice_get}
use Rattle.std.proofs.lemmas.Option.{get_or_from_slice_get}

pub stands : {X : Type 0} (xs : List X) (i : ℕ) (now before : X) → slice_get xs i ≡ Some before → now ≡ get_or xs i now → now ≡ before
stands xs i now before stood e = e ∙ get_or_from_slice_get xs i before now stood

pub remove_set : {X : Type 0} (xs : List X) (i : ℕ) (x : X) → remove (set xs i x) i ≡ remove xs i
remove_set [] i x = refl
remove_set (y ∷ ys) zero x = refl
remove_set {X = X} (y ∷ ys) (suc i) x = ap (λ (r : List X). y ∷ r) (remove_set ys i x)
