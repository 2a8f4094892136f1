-- Results by key, as their callers see them.
use Rattle.std.specs.Prelude.{ℕ, ◌≡◌, ◌≢◌, ◌↔◌, Bool, false, List, Option, Some, Contains, IsSome, IsTrue, refl, slice_get}
use Rattle.std.specs.Coded.{Coded, code_by, coded×, coded_list}
use Rattle.std.specs.FinMap.{get, from_entries}
use Rattle.std.specs.declared.cmp.Ordering.{Ordering}

-- each key with its result, in no stated order
pub record Results (K V : Type 0) : Type 0 where
  pub entries : List (K × V)

-- results are coded by the list of their entries
abbrev pub results_code : {K V : Type 0} → Coded K → Coded V → Coded (Results K V)
results_code {K} {V} keys values =
    code_by (List (K × V)) (coded_list (coded× keys values)) (λ r. r.entries) (λ es. record { entries = es }) (λ _. refl)

-- the result at the key, of these entries
abbrev pub result_in : {K V : Type 0} → (K → K → Ordering) → List (K × V) → K → Option V
result_in cmp entries key = get (from_entries {R = cmp} entries) key

-- the result at the key
abbrev pub result_at : {K V : Type 0} → (K → K → Ordering) → Results K V → K → Option V
result_at cmp results key = result_in cmp results.entries key

-- just these keys have a result
abbrev pub AreKeysOf : {K V : Type 0} → (K → K → Ordering) → Results K V → List K → Type 0
AreKeysOf {K} cmp results keys = (k : K) → Contains keys k ↔ IsSome (result_at cmp results k)

-- each of these is the result at its key
abbrev pub AreResults : {K V : Type 0} → (K → K → Ordering) → Results K V → List (K × V) → Type 0
AreResults {K} {V} cmp results entries = (k : K) (value : V) → Contains entries (k, value) → result_at cmp results k ≡ Some value

-- the result of the key is at the place among the entries
abbrev pub StandsAt : {K V : Type 0} → (K → K → Ordering) → List (K × V) → K → ℕ → Type 0
StandsAt {V = V} cmp entries key place = (value : V) × (slice_get entries place ≡ Some (key, value)) × (result_in cmp entries key ≡ Some value)

-- at all other keys the results stay
abbrev pub OthersUnchanged : {K V : Type 0} → (K → Option V) → (K → Option V) → K → Type 0
OthersUnchanged {K} old new key = (k : K) → k ≢ key → new k ≡ old k

-- the result is true exactly if the result at the key differs
abbrev pub ReportsDifference : {K V : Type 0} → (K → Option V) → (K → Option V) → K → Bool → Type 0
ReportsDifference old new key differs = IsTrue differs ↔ (old key ≢ new key)

-- if the result is `false`, the result at the key stays
abbrev pub ReportsSame : {K V : Type 0} → (K → Option V) → (K → Option V) → K → Bool → Type 0
ReportsSame old new key differs = differs ≡ false → new key ≡ old key
