-- Items that were sorted, and of which each is kept once.
use Rattle.std.proofs.Common.{◌≡◌, Bool, List, [], Ordering, refl, sym, ap, subst, ◌∙◌}
use Rattle.std.specs.Prelude.{◌↔◌}
use Rattle.std.specs.Ordering.{eq_by_cmp}
use Rattle.std.specs.Cmp.{IsTotalOrder, eq_by_cmp_equiv}
use Rattle.std.specs.FinMap.{IsAntisymmetric}
use Rattle.std.specs.List.{Contains, dedup}
use Rattle.std.specs.List.Retain.{IsFiltered, DiffersFromLast}
use Rattle.std.specs.List.Sorted.{IsSorted, IsStrictlySortedBy, IsPermutation}
use Rattle.std.proofs.lemmas.List.Filters.{dedup_is}
use Rattle.std.proofs.lemmas.List.Kept.{IsStrictlySortedBy-dedup, Contains-dedup, Contains-from_dedup}
use Rattle.std.proofs.lemmas.List.Sorted.{Contains-permutation, IsPermutation-sym}
use Rattle.std.proofs.lemmas.Map.Views.{tells_apart}

module _ {K : Type 0} {cmp : K → K → Ordering} (total : IsTotalOrder cmp) (exact : IsAntisymmetric cmp) {equals : K → K → Bool} (equals_order : equals ≡ eq_by_cmp cmp) (all sorted kept : List K)
    (moved : IsPermutation all sorted) (in_order : IsSorted cmp sorted) (filtered : IsFiltered (DiffersFromLast equals) [] sorted kept) where
  -- what is kept
  kept_is : kept ≡ dedup (eq_by_cmp cmp) sorted
  kept_is = dedup_is equals sorted kept filtered ∙ ap (λ (same : K → K → Bool). dedup same sorted) equals_order

  -- is ascending, without duplicates
  pub strictly : IsStrictlySortedBy cmp kept
  strictly = subst (IsStrictlySortedBy cmp) (sym kept_is) (IsStrictlySortedBy-dedup total (λ v w. refl) sorted in_order)

  -- and has just what was there
  pub same_items : (k : K) → Contains kept k ↔ Contains all k
  same_items k = (
    λ c. Contains-permutation sorted all k (IsPermutation-sym all sorted moved) (Contains-from_dedup (eq_by_cmp cmp) sorted k (subst (λ (ks : List K). Contains ks k) kept_is c)),
    λ c. subst (λ (ks : List K). Contains ks k) (sym kept_is) (Contains-dedup (eq_by_cmp_equiv total) (tells_apart exact) sorted k (Contains-permutation all sorted k moved c)),
  )
