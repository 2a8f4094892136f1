-- A list without doubles whose elements all are in another list is no longer than it.
use Rattle.std.proofs.Common.{◌≡◌, ◌≢◌, ℕ, suc, ◌-◌, ◌<◌, ◌≤◌, List, [], ◌∷◌, ◌++◌, length, get_or, sym, ap, subst, ◌∙◌, inl, inr, arith}
use Rattle.std.specs.List.{Contains, remove}
use Rattle.std.proofs.lemmas.Bool.{cases_lt}
use Rattle.std.proofs.lemmas.List.{get_or_default}
use Rattle.std.proofs.lemmas.List.Edits.{length-remove, get_or-remove_below, get_or-remove_above}
use Rattle.std.proofs.lemmas.List.Quantifiers.{all_pairs_push}
use Rattle.vertex_queue.specs.VertexSet.{HasNoDoubles}
use Rattle.ospf_types.proofs.Elements.{first_element, later_element}

module _ {X : Type 0} where
  -- what is at another place still is where one is taken out
  contains_without : (ys : List X) (i k : ℕ) (y : X) → i < length ys → k < length ys → get_or ys k y ≡ y → k ≢ i → Contains (remove ys i) y
  contains_without ys i k y i_in k_in is other = elim (cases_lt k i) [
    | inl less ↦ (k, omega (arith, length-remove ys i i_in), get_or-remove_below ys i y k less i_in ∙ is)
    | inr more ↦ (k - 1, omega (arith, length-remove ys i i_in), get_or-remove_above ys i y (k - 1) (omega arith) i_in ∙ ap (λ n. get_or ys n y) (omega arith) ∙ is)
  ]

  -- the elements after the first have no doubles
  tail_apart : (x : X) (xs : List X) → HasNoDoubles (x ∷ xs) → HasNoDoubles xs
  tail_apart x xs apart = λ i j d less within. apart (suc i) (suc j) d (omega arith) (omega arith)

  -- and the first is not among them
  head_apart : (x z : X) (xs : List X) → HasNoDoubles (x ∷ xs) → Contains xs z → x ≢ z
  head_apart x z xs apart c = subst (λ w. x ≢ w) c.2 (apart 0 (suc c.0) z (omega arith) (omega (arith, c.1)))

  -- a list without doubles is no longer than one that has its elements
  pub no_longer : (xs ys : List X) → HasNoDoubles xs → ((x : X) → Contains xs x → Contains ys x) → length xs ≤ length ys
  no_longer [] ys apart within = omega arith
  no_longer (x ∷ xs) ys apart within =
      let place : Contains ys x = within x (first_element x xs) in
      let rest = no_longer xs (remove ys place.0) (tail_apart x xs apart) (λ z c.
      let found : Contains ys z = within z (later_element x z xs c) in
      contains_without ys place.0 found.0 z place.1 found.1 found.2 (λ same.
      head_apart x z xs apart c (sym place.2 ∙ get_or_default ys place.0 x z place.1 ∙ ap (λ n. get_or ys n z) (sym same) ∙ found.2))) in
      omega (arith, rest, length-remove ys place.0 place.1)

  -- the empty list has no doubles
  pub no_doubles_nil : HasNoDoubles {X = X} []
  no_doubles_nil = λ i j d less within. absurd (omega (arith, within))

  -- a list without doubles has no doubles after an element that it lacks is pushed
  pub no_doubles_push : (xs : List X) (x : X) → HasNoDoubles xs → (Contains xs x → ⊥) → HasNoDoubles (xs ++ x ∷ [])
  no_doubles_push xs x apart fresh = all_pairs_push (λ y z. y ≢ z) xs x apart (λ k d within same. fresh (k, within, get_or_default xs k x d within ∙ same))
