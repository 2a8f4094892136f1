-- The keys of an area, taken one by one.
use Rattle.std.proofs.Common.{◌≡◌, ℕ, ◌+◌, ◌<◌, List, [], ◌∷◌, ◌++◌, length, get_or, take, sym, ap, subst, ◌∙◌, ⊎_elim}
use Rattle.std.specs.Prelude.{◌↔◌}
use Rattle.std.specs.List.{Contains}
use Rattle.std.proofs.lemmas.List.{take_more}
use Rattle.std.proofs.lemmas.List.Elements.{Contains-append_left, Contains-append_right, Contains-push_cases}
use Rattle.ospf_types.specs.declared.key.Key.{Key}
use Rattle.ospf_types.specs.declared.key.Scope.{Scope}
use Rattle.ospf_types.specs.declared.key.Scope.TheVariants.{Area}
use Rattle.ospf_types.proofs.Elements.{first_element}

-- these are the keys of the area
abbrev pub AreKeysOf : ℕ → List (Scope × Key) → List Key → Type 0
AreKeysOf area keys found = (key : Key) → Contains found key ↔ Contains keys (Area area, key)

module _ (area : ℕ) (keys : List (Scope × Key)) (found : List Key) (are : AreKeysOf area keys found) where
  key_taken : (e : Scope × Key) → e.0 ≡ Area area → AreKeysOf area (keys ++ e ∷ []) (found ++ e.1 ∷ [])
  key_taken e here key = (
    λ c. ⊎_elim
        (λ (before : Contains found key). Contains-append_left keys (e ∷ []) (Area area, key) ((are key).0 before))
        (λ (now : e.1 ≡ key).
        let same : e ≡ (Area area, key) = (λ j. (here j, now j)) in
        Contains-append_right keys (e ∷ []) (Area area, key) (subst (λ (x : Scope × Key). Contains (e ∷ []) x) same (first_element e [])))
        (Contains-push_cases found e.1 key c),
    λ c. ⊎_elim
        (λ (before : Contains keys (Area area, key)). Contains-append_left found (e.1 ∷ []) key ((are key).1 before))
        (λ (now : e ≡ (Area area, key)). Contains-append_right found (e.1 ∷ []) key (subst (λ (k : Key). Contains (e.1 ∷ []) k) (ap (λ (x : Scope × Key). x.1) now) (first_element e.1 [])))
        (Contains-push_cases keys e (Area area, key) c),
  )

  key_skipped : (e : Scope × Key) → (e.0 ≡ Area area → ⊥) → AreKeysOf area (keys ++ e ∷ []) found
  key_skipped e other key = (
    λ c. Contains-append_left keys (e ∷ []) (Area area, key) ((are key).0 c),
    λ c. ⊎_elim (λ (before : Contains keys (Area area, key)). (are key).1 before) (λ (now : e ≡ (Area area, key)). absurd (other (ap (λ (x : Scope × Key). x.0) now))) (Contains-push_cases keys e (Area area, key) c),
  )

module _ (area : ℕ) (keys : List (Scope × Key)) (found : List Key) (i : ℕ) (e : Scope × Key) (lt : i < length keys) (is : e ≡ get_or keys i e) (are : AreKeysOf area (take i keys) found) where
  step : take (i + 1) keys ≡ take i keys ++ e ∷ []
  step = take_more keys i e lt ∙ ap (λ (x : Scope × Key). take i keys ++ x ∷ []) (sym is)

  pub one_taken : e.0 ≡ Area area → AreKeysOf area (take (i + 1) keys) (found ++ e.1 ∷ [])
  one_taken here = subst (λ (list : List (Scope × Key)). AreKeysOf area list (found ++ e.1 ∷ [])) (sym step) (key_taken area (take i keys) found are e here)

  pub one_skipped : (e.0 ≡ Area area → ⊥) → AreKeysOf area (take (i + 1) keys) found
  one_skipped other = subst (λ (list : List (Scope × Key)). AreKeysOf area list found) (sym step) (key_skipped area (take i keys) found are e other)
