-- Lists that stay in order while items are added at their ends.
use Rattle.std.proofs.Common.{◌≡◌, List, [], ◌∷◌, ◌++◌, Ordering, subst, inl, inr}
use Rattle.std.specs.Prelude.{Contains}
use Rattle.std.specs.declared.cmp.Ordering.TheVariants.{Less}
use Rattle.std.specs.Cmp.{IsTotalOrder}
use Rattle.std.specs.FinMap.{IsAntisymmetric}
use Rattle.std.specs.List.{AllByRecursion}
use Rattle.std.specs.List.Sorted.{IsStrictlySortedBy}
use Rattle.std.proofs.lemmas.Map.Keys.{sorted_tail}
use Rattle.std.proofs.lemmas.List.Elements.{Contains-push_cases}
use Rattle.ospf_types.proofs.Elements.{no_element, first_element, later_element}
use Rattle.ospf_types.proofs.OneBest.{later_above}

-- what is above all joins at the end
pub sorted_push : {K : Type 0} (cmp : K → K → Ordering) (xs : List K) (z : K) → IsStrictlySortedBy cmp xs → ((x : K) → Contains xs x → cmp x z ≡ Less) → IsStrictlySortedBy cmp (xs ++ z ∷ [])
unfolding IsStrictlySortedBy
sorted_push cmp [] z sorted above = (tt, tt)
sorted_push {K = K} cmp (x ∷ xs) z sorted above = (below xs sorted.0, sorted_push cmp xs z sorted.1 (λ y c. above y (later_element x y xs c)))
  where
    below : (ys : List K) → AllByRecursion (λ y. cmp x y ≡ Less) ys → AllByRecursion (λ y. cmp x y ≡ Less) (ys ++ z ∷ [])
    below [] all = (above x (first_element x xs), tt)
    below (y ∷ ys) all = (all.0, below ys all.1)

-- ---- a list, and what is still to come

module _ {K : Type 0} (cmp : K → K → Ordering) where
  -- both are in order, and what is listed is below the rest
  pub record IsAscending (listed left : List K) : Type 0 where
    pub done : IsStrictlySortedBy cmp listed
    pub rest : IsStrictlySortedBy cmp left
    pub below : (x y : K) → Contains listed x → Contains left y → cmp x y ≡ Less

  -- nothing is listed
  pub ascending_none : (left : List K) → IsStrictlySortedBy cmp left → IsAscending [] left
  unfolding IsStrictlySortedBy
  ascending_none left sorted = record { done = tt; rest = sorted; below = λ x y none there. absurd (no_element x none) }

  -- the next is left out
  pub ascending_passed : (listed left : List K) (z : K) → IsAscending listed (z ∷ left) → IsAscending listed left
  ascending_passed listed left z a = record { done = a.done; rest = sorted_tail cmp z left a.rest; below = λ x y c d. a.below x y c (later_element z y left d) }

  -- the next is listed
  pub ascending_pushed : IsTotalOrder cmp → IsAntisymmetric cmp → (listed left : List K) (z : K) → IsAscending listed (z ∷ left) → IsAscending (listed ++ z ∷ []) left
  ascending_pushed total exact listed left z a = record {
    done = sorted_push cmp listed z a.done (λ x c. a.below x z c (first_element z left));
    rest = sorted_tail cmp z left a.rest;
    below = λ x y c d. elim (Contains-push_cases listed z x c) [
      | inl was ↦ a.below x y was (later_element z y left d)
      | inr e ↦ subst (λ (w : K). cmp w y ≡ Less) e (later_above total exact z y left a.rest d)
    ];
  }
