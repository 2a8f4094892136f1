-- Where the database of a scope stands.
use Rattle.std.proofs.Common.{◌≡◌, ◌≢◌, ℕ, ◌+◌, ◌<◌, ◌≤◌, Bool, true, false, List, [], length, get_or, Some, None, refl, sym, ap, ◌∙◌, arith, inl, inr}
use Rattle.std.specs.Prelude.{◌==◌, IsSome, nat_lt, not}
use Rattle.std.specs.List.{position_or_len}
use Rattle.std.proofs.lemmas.Bool.{cases_lt}
use Rattle.std.proofs.lemmas.Bool.Decides.{nat_tests, eqb_tells}
use Rattle.std.proofs.lemmas.List.{get_or_default}
use Rattle.std.proofs.lemmas.List.Sums.{prefix_len_passes}
use Rattle.std.proofs.lemmas.List.Quantifiers.{position-Some}
use Rattle.ospf_types.specs.declared.config.AreaConfig.{AreaConfig}
use Rattle.ospf_types.specs.declared.key.Scope.{Scope}
use Rattle.ospf_types.specs.declared.key.Scope.TheVariants as scope
use Rattle.event_state.specs.States.{AreAreasApart, place_of}

not_same : (x y : ℕ) → x ≢ y → (x == y) ≡ false
not_same x y h = elim (eqb_tells x y) [ inl t ↦ absurd (h t.1) | inr t ↦ t.0 ]

itself : (x : ℕ) → (x == x) ≡ true
itself x = elim (eqb_tells x x) [ inl t ↦ t.0 | inr t ↦ absurd (t.1 refl) ]

same_number : (x y : ℕ) → (x == y) ≡ true → x ≡ y
same_number x y h = elim (eqb_tells x y) [ inl t ↦ t.1 | inr t ↦ absurd cc ]

abbrev pub no_area : AreaConfig
no_area = record { id = 0; stub = None; ranges = [] }

-- a configured area has a place
pub place_there : (areas : List AreaConfig) (k : ℕ) (d : AreaConfig) → k < length areas → IsSome (place_of areas (scope.Area (get_or areas k d).id))
place_there areas k d lt =
    let id = (get_or areas k d).id in
    let test : AreaConfig → Bool = λ a. a.id == id in
    let n = position_or_len test areas in
    let early : n ≤ k = elim (cases_lt k n) [
      | inl past ↦ let fails : not (test (get_or areas k d)) ≡ true = prefix_len_passes (λ a. not (test a)) areas k d past in let wrong : not true ≡ true = sym (ap not (itself id)) ∙ fails in absurd cc
      | inr within ↦ within
    ] in
    let within : nat_lt n (length areas) ≡ true = grind (arith, nat_tests) in
    rw within refl

-- the place of a configured area is one of the areas', and the area there has the Area ID
pub area_at : (areas : List AreaConfig) (id k : ℕ) → place_of areas (scope.Area id) ≡ Some k → (k < length areas) × ((get_or areas k no_area).id ≡ id)
area_at areas id k e =
    let found = position-Some (λ (a : AreaConfig). a.id == id) areas k no_area e in
    (found.0, same_number _ _ found.1)

-- where no two areas have one Area ID, each has its own place
pub place_at : (areas : List AreaConfig) (k : ℕ) (d : AreaConfig) → AreAreasApart areas → k < length areas → place_of areas (scope.Area (get_or areas k d).id) ≡ Some k
place_at areas k d apart lt =
    elim (place_of areas (scope.Area (get_or areas k d).id)) as (λ o. place_of areas (scope.Area (get_or areas k d).id) ≡ o → IsSome o → o ≡ Some k) [
      | None ↦ λ e some. absurd cc
      | Some j ↦ λ e some.
          let found = area_at areas (get_or areas k d).id j e in
          let same : (get_or areas j no_area).id ≡ (get_or areas k no_area).id = found.1 ∙ ap (λ (a : AreaConfig). a.id) (get_or_default areas k d no_area lt) in
          elim (cases_lt j k) [
            | inl below ↦ absurd (apart j k no_area below lt same)
            | inr past ↦ elim (cases_lt k j) [
              | inl above ↦ absurd (apart k j no_area above found.0 (sym same))
              | inr le ↦ ap Some (omega (arith, past, le))
            ]
          ]
    ] refl (place_there areas k d lt)

-- there is a database at the place
pub place_within : (areas : List AreaConfig) (at : Scope) (k : ℕ) → place_of areas at ≡ Some k → k < length areas + 1
place_within areas (scope.Area id) k e = omega (arith, (area_at areas id k e).0)
place_within areas scope.As k e = let last : length areas ≡ k = cc in omega arith

-- no two scopes have one place
pub places_apart : (areas : List AreaConfig) (at other : Scope) (k : ℕ) → place_of areas at ≡ Some k → place_of areas other ≡ Some k → at ≡ other
places_apart areas (scope.Area a) (scope.Area b) k e f = ap scope.Area (sym (area_at areas a k e).1 ∙ (area_at areas b k f).1)
places_apart areas (scope.Area a) scope.As k e f = let last : length areas ≡ k = cc in absurd (omega (arith, (area_at areas a k e).0))
places_apart areas scope.As (scope.Area b) k e f = let last : length areas ≡ k = cc in absurd (omega (arith, (area_at areas b k f).0))
places_apart areas scope.As scope.As k e f = refl
