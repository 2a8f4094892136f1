-- The results that have to be there: a result at each key, `None` at some.
use Rattle.std.specs.Prelude.{◌≡◌, ◌≢◌, ◌⊎◌, ◌↔◌, ◌++◌, List, [], ◌∷◌, Option, Contains, map}
use Rattle.std.specs.List.Sorted.{IsStrictlySortedBy}
use Rattle.std.specs.declared.cmp.Ordering.{Ordering}

-- at each key there is the result that has to be there
abbrev pub AreChosen : {K V : Type 0} → (K → Option V → Type 0) → (K → Option V) → Type 0
AreChosen {K} IsChosen results = (k : K) → IsChosen k (results k)

-- at each key but these
abbrev pub AreChosenExcept : {K V : Type 0} → (K → Option V → Type 0) → List K → (K → Option V) → Type 0
AreChosenExcept {K} IsChosen keys results = (k : K) → (Contains keys k → ⊥) → IsChosen k (results k)

-- another result is at the key
abbrev pub HasChanged : {K V : Type 0} → (K → Option V) → (K → Option V) → K → Type 0
HasChanged old new key = new key ≢ old key

-- only the result at the key is recomputed, and the key is reported, by a name, if another result
-- is there now
pub record IsRechosen {K V N : Type 0} (IsChosen : K → Option V → Type 0) (named_as : K → N) (old new : K → Option V) (key : K) (before after : List N) : Type 0 where
  pub here : IsChosen key (new key)
  pub others : (k : K) → k ≢ key → new k ≡ old k
  pub told : ((after ≡ before) × (new key ≡ old key)) ⊎ ((after ≡ before ++ named_as key ∷ []) × HasChanged old new key)

-- only the results at these keys are recomputed; keys with another result now are reported, each by
-- its name, in the order of the keys
pub record AreRechosen {K V N : Type 0} (cmp : K → K → Ordering) (IsChosen : K → Option V → Type 0) (named_as : K → N) (old new : K → Option V) (keys : List K) (told : List N) : Type 0 where
  pub here : (k : K) → Contains keys k → IsChosen k (new k)
  pub others : (k : K) → (Contains keys k → ⊥) → new k ≡ old k
  pub differing : List K
  pub reported_as : told ≡ map named_as differing
  pub exact : (k : K) → Contains differing k ↔ HasChanged old new k
  pub in_order : IsStrictlySortedBy cmp differing
