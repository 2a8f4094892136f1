-- The configured Area IDs as a set.
use Rattle.std.proofs.Common.{◌≡◌, ℕ, suc, ◌+◌, Bool, true, false, not, cond, Some, None, List, [], ◌∷◌, length, BTreeSet, refl, sym, ◌∙◌, arith}
use Rattle.std.specs.Prelude.{◌==◌, ◌||◌, is_some, nat_lt}
use Rattle.std.specs.List.{list_any, position_or_len}
use Rattle.std.specs.Ordering.{nat_cmp}
use Rattle.std.specs.Cmp.{nat_cmp_total}
use Rattle.std.specs.BTreeSet.{contains, IsOrdered}
use Rattle.std.proofs.lemmas.Bool.Decides.{nat_tests}
use Rattle.std.proofs.lemmas.Map.Lookups.{exact_unsigned}
use Rattle.std.proofs.lemmas.Map.Views.{btree_set_contains_iff}
use Rattle.ospf_types.specs.declared.config.AreaConfig.{AreaConfig}
use Rattle.ospf_types.specs.declared.key.Scope.TheVariants as scope
use Rattle.event_state.specs.States.{place_of}
use Rattle.event_state.specs.Listings.{AreAreaIds}

one_on : (n m : ℕ) → nat_lt (1 + n) (suc m) ≡ nat_lt n m
one_on n m = grind (arith, nat_tests)

first_place : (m : ℕ) → nat_lt 0 (suc m) ≡ true
first_place m = grind (arith, nat_tests)

-- an item that passes is found exactly where there is one
found_any : {X : Type 0} (p : X → Bool) (xs : List X) → nat_lt (position_or_len p xs) (length xs) ≡ list_any p xs
found_any p [] = refl
found_any p (x ∷ xs) =
    elim (p x) as (λ b. nat_lt (cond (not b) (1 + position_or_len p xs) 0) (suc (length xs)) ≡ (b || list_any p xs)) [
      | true ↦ first_place (length xs)
      | false ↦ one_on (position_or_len p xs) (length xs) ∙ found_any p xs
    ]

is_some_if : {X : Type 0} (b : Bool) (x : X) → is_some (cond b (Some x) None) ≡ b
is_some_if true x = refl
is_some_if false x = refl

pub has_place : (areas : List AreaConfig) (id : ℕ) → is_some (place_of areas (scope.Area id)) ≡ list_any (λ a. a.id == id) areas
has_place areas id = is_some_if (nat_lt (position_or_len (λ (a : AreaConfig). a.id == id) areas) (length areas)) (position_or_len (λ (a : AreaConfig). a.id == id) areas) ∙ found_any (λ (a : AreaConfig). a.id == id) areas

pub area_ids : (areas : List AreaConfig) (ids : BTreeSet ℕ) → IsOrdered nat_cmp ids → ((q : ℕ) → contains nat_cmp ids q ≡ list_any (λ a. a.id == q) areas) → AreAreaIds areas ids.keys
area_ids areas ids ordered same = record {
  ascending = ordered;
  same = λ id. (
    λ has. has_place areas id ∙ sym (same id) ∙ (btree_set_contains_iff nat_cmp_total exact_unsigned ids id).1 has,
    λ some. (btree_set_contains_iff nat_cmp_total exact_unsigned ids id).0 (same id ∙ sym (has_place areas id) ∙ some),
  );
}
