-- The keys of the rows at which a column passes a test.
use Rattle.std.proofs.Common.{◌≡◌, ℕ, ◌+◌, Bool, true, false, cond, List, [], ◌∷◌, ◌++◌, length, map, filter, Some, refl, sym, ap, ◌∙◌, append_assoc}
use Rattle.std.specs.Prelude.{slice_get, Result, OnOk, if◌then◌else◌}
use Rattle.std.specs.List.{filter_map, cons_option}
use Rattle.std.proofs.lemmas.List.{length-append}
use Rattle.indexmap.proofs.MapLemmas.{OnOk-map}
use Rattle.lanes.specs.Rows.{rows_from, places}

middle : {X : Type 0} (front xs : List X) (x : X) → slice_get (front ++ x ∷ xs) (length front) ≡ Some x
middle [] xs x = refl
middle (y ∷ front) xs x = middle front xs x

from_row : {X : Type 0} (f : X → ℕ) (p : ℕ → Bool) (front xs : List X) → filter_map (slice_get (front ++ xs)) (rows_from p (length front) (map f xs)) ≡ filter (λ x. p (f x)) xs
from_row f p front [] = refl
from_row {X} f p front (x ∷ xs) =
    let whole = front ++ x ∷ xs in
    let rows = rows_from p (length front + 1) (map f xs) in
    let rest : filter_map (slice_get whole) rows ≡ filter (λ y. p (f y)) xs =
    (λ i. filter_map (slice_get (sym (append_assoc front (x ∷ []) xs) i)) (rows_from p (sym (length-append front (x ∷ [])) i) (map f xs))) ∙ from_row f p (front ++ x ∷ []) xs in
    elim (p (f x)) as (λ b. filter_map (slice_get whole) (if b then length front ∷ rows else rows) ≡ cond b (x ∷ filter (λ y. p (f y)) xs) (filter (λ y. p (f y)) xs)) [
      | true ↦ ap (λ o. cons_option o (filter_map (slice_get whole) rows)) (middle front xs x) ∙ ap (λ (ys : List X). x ∷ ys) rest
      | false ↦ rest
    ]

-- what is added of the rows that were found in a column
pub keys_found : {X E : Type 0} (r : Result (Unit {0}) E) (f : X → ℕ) (p : ℕ → Bool) (order old new : List X) (column rows_old rows_new rows : List ℕ)
    → column ≡ map f order → rows_old ≡ [] → rows_new ≡ rows_old ++ places p column → rows ≡ rows_new
    → OnOk r (new ≡ old ++ filter_map (slice_get order) rows) → OnOk r (new ≡ old ++ filter (λ x. p (f x)) order)
keys_found {X} r f p order old new column rows_old rows_new rows column_is none found same =
    OnOk-map r (new ≡ old ++ filter_map (slice_get order) rows) (new ≡ old ++ filter (λ x. p (f x)) order)
    (λ e. e ∙ ap (λ (ks : List X). old ++ ks) (ap (filter_map (slice_get order)) (same ∙ found ∙ (λ i. none i ++ places p (column_is i))) ∙ from_row f p [] order))
