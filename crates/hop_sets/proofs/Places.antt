-- Where an element is in a list in order, or where it goes.
use Rattle.std.proofs.Common.{◌≡◌, ℕ, ◌<◌, ◌≤◌, List, length, get_or, Ordering, Result, Ok, Err, refl, sym, subst, ⊎_elim, arith}
use Rattle.std.specs.Prelude.{◌↔◌, IsOk, IfErr}
use Rattle.std.specs.declared.cmp.Ordering.TheVariants.{Less, Equal, Greater}
use Rattle.std.specs.Cmp.{IsTotalOrder}
use Rattle.std.specs.List.{Contains, insert}
use Rattle.std.specs.List.Sorted.{IsStrictlySortedBy, IsBinarySearchResult, IsSearchInRange, IsPartitionPoint}
use Rattle.std.proofs.lemmas.Bool.{cases_lt}
use Rattle.std.proofs.lemmas.Cmp.{tied_itself}
use Rattle.std.proofs.lemmas.Map.Lookups.{CmpEqualImpliesEq}
use Rattle.ospf_types.proofs.InOrder.{searchable, sorted_insert}

module _ {X : Type 0} {R : X → X → Ordering} (o : IsTotalOrder R) (exact : CmpEqualImpliesEq R) (xs : List X) (x : X) (sorted : IsStrictlySortedBy R xs) where
  -- an element that has a place among the others is not there
  not_there : (place : ℕ) → IsPartitionPoint (λ y. R y x ≡ Less) (λ y. R y x ≡ Greater) xs place → Contains xs x → ⊥
  not_there place split (k, below, is) =
      let tie : R (get_or xs k x) x ≡ Equal = subst (λ y. R y x ≡ Equal) (sym is) (tied_itself o x) in
      ⊎_elim (λ (low : k < place). let less = split.0 k x (omega arith) low in cc) (λ (high : place ≤ k). let greater = split.1 k x high below in cc) (cases_lt k place)

  -- a search finds what the list has
  pub found : (r : Result ℕ ℕ) → IsSearchInRange r (length xs) → IsBinarySearchResult (λ y. R y x) xs r → IsOk r ↔ Contains xs x
  found (Ok k) range h = (λ _. (k, range, exact _ _ (h x)), λ _. refl)
  found (Err place) range h = (λ e. absurd cc, λ c. absurd (not_there place (h (searchable o xs x sorted)) c))

  -- and what it lacks goes to the place that is answered
  pub placed : (r : Result ℕ ℕ) → IsBinarySearchResult (λ y. R y x) xs r → IfErr r (λ place. IsStrictlySortedBy R (insert xs place x))
  placed (Ok k) h = tt
  placed (Err place) h = sorted_insert o xs place x sorted (h (searchable o xs x sorted))
