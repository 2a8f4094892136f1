-- Area IDs that were sorted, and of which each is kept once.
use Rattle.std.proofs.Common.{◌≡◌, ◌∙◌, ◌&&◌, ◌||◌, ℕ, Bool, true, false, cond, T, List, [], ◌∷◌, map, Option, Some, None, Ordering, refl, sym, ap, subst, nat_eq}
use Rattle.std.specs.Prelude.{◌↔◌, is_some}
use Rattle.std.specs.declared.cmp.Ordering.TheVariants.{Less, Equal, Greater}
use Rattle.std.specs.Ordering.{eq_by_cmp, is_lt, nat_cmp}
use Rattle.std.specs.Cmp.{nat_cmp_total, eq_by_cmp_equiv, unsigned_ties}
use Rattle.std.specs.FinMap.{find, entries, entries_sorted, is_sorted, contains_key, contains_key-keys, get-from_entries, nat_cmp-IsAntisymmetric}
use Rattle.std.specs.FinMap.Entries.{below_all, same_entries}
use Rattle.std.specs.Map.{keys_of}
use Rattle.std.specs.List.{AllByRecursion, Contains, dedup, list_any}
use Rattle.std.specs.List.Retain.{IsFiltered, DiffersFromLast}
use Rattle.std.specs.List.Sorted.{IsSorted, IsStrictlySortedBy, IsPermutation}
use Rattle.std.proofs.lemmas.List.Filters.{dedup_is}
use Rattle.std.proofs.lemmas.List.Kept.{IsStrictlySortedBy-dedup, Contains-dedup, Contains-from_dedup}
use Rattle.std.proofs.lemmas.List.Sorted.{Contains-permutation, IsPermutation-sym}
use Rattle.std.proofs.lemmas.Map.Views.{Contains-from_any, list_any-from_Contains, tells_apart}
use Rattle.captured_config.specs.Areas.{set_of, ascending}

-- ---- a list in order, as the entries of a map

abbrev marked : List ℕ → List (ℕ × Unit {0})
marked ids = map (λ (k : ℕ). (k, tt)) ids

both : (a b : Bool) → T a → T b → T (a && b)
both true b left right = right
both false b left right = absurd left

less : (o : Ordering) → o ≡ Less → T (is_lt o)
less Less is = tt
less Equal is = absurd cc
less Greater is = absurd cc

below : (id : ℕ) (ids : List ℕ) → AllByRecursion (λ k. nat_cmp id k ≡ Less) ids → T (below_all nat_cmp id (marked ids))
below id [] all = tt
below id (k ∷ ks) all = both _ _ (less (nat_cmp id k) all.0) (below id ks all.1)

in_order : (ids : List ℕ) → IsStrictlySortedBy nat_cmp ids → T (is_sorted nat_cmp (marked ids))
unfolding IsStrictlySortedBy
in_order [] sorted = tt
in_order (k ∷ ks) sorted = both _ _ (below k ks sorted.0) (in_order ks sorted.1)

some_or : (b : Bool) (o : Option (Unit {0})) → is_some (cond b (Some tt) o) ≡ (b || is_some o)
some_or true o = refl
some_or false o = refl

found : (ids : List ℕ) (q : ℕ) → is_some (find nat_cmp q (marked ids)) ≡ list_any (eq_by_cmp nat_cmp q) ids
found [] q = refl
found (k ∷ ks) q = some_or (eq_by_cmp nat_cmp q k) (find nat_cmp q (marked ks)) ∙ ap (λ b. eq_by_cmp nat_cmp q k || b) (found ks q)

unmarked : (ids : List ℕ) → map (λ (e : ℕ × Unit {0}). e.0) (marked ids) ≡ ids
unmarked [] = refl
unmarked (k ∷ ks) = ap (λ ks. k ∷ ks) (unmarked ks)

-- ---- lists with the same members

same_bools : (a b : Bool) → (a ≡ true → b ≡ true) → (b ≡ true → a ≡ true) → a ≡ b
same_bools true b to from = sym (to refl)
same_bools false true to from = from refl
same_bools false false to from = refl

same_options : (a b : Option (Unit {0})) → is_some a ≡ is_some b → a ≡ b
same_options None None is = refl
same_options None (Some u) is = absurd cc
same_options (Some u) None is = absurd cc
same_options (Some u) (Some v) is = refl

alike : (areas ids : List ℕ) → ((k : ℕ) → Contains ids k ↔ Contains areas k) → (q : ℕ) → list_any (eq_by_cmp nat_cmp q) areas ≡ list_any (eq_by_cmp nat_cmp q) ids
alike areas ids same q =
    let from_any : (ks : List ℕ) → list_any (eq_by_cmp nat_cmp q) ks ≡ true → Contains ks q = λ ks any. Contains-from_any (tells_apart nat_cmp-IsAntisymmetric) q ks any in
    let to_any : (ks : List ℕ) → Contains ks q → list_any (eq_by_cmp nat_cmp q) ks ≡ true = λ ks has. list_any-from_Contains (eq_by_cmp_equiv nat_cmp_total) q ks has in
    same_bools _ _ (λ any. to_any ids ((same q).1 (from_any areas any))) (λ any. to_any areas ((same q).0 (from_any ids any)))

-- in order, they are the same
same_list : (xs ys : List ℕ) → IsStrictlySortedBy nat_cmp xs → IsStrictlySortedBy nat_cmp ys → ((k : ℕ) → Contains xs k ↔ Contains ys k) → xs ≡ ys
same_list xs ys ascends rises same =
    let is : marked xs ≡ marked ys =
    same_entries nat_cmp nat_cmp_total nat_cmp-IsAntisymmetric (marked xs) (marked ys) (in_order xs ascends) (in_order ys rises)
    (λ q. same_options _ _ (found xs q ∙ sym (alike ys xs same q) ∙ sym (found ys q))) in
    sym (unmarked xs) ∙ ap (map (λ (e : ℕ × Unit {0}). e.0)) is ∙ unmarked ys

-- ---- the keys of a set

front : (a b : Bool) → T (a && b) → T a
front true b both = tt
front false b both = both

rest : (a b : Bool) → T (a && b) → T b
rest true b both = both
rest false b both = absurd both

is_less : (o : Ordering) → T (is_lt o) → o ≡ Less
is_less Less lt = refl
is_less Equal lt = absurd lt
is_less Greater lt = absurd lt

above : (id : ℕ) (es : List (ℕ × Unit {0})) → T (below_all nat_cmp id es) → AllByRecursion (λ k. nat_cmp id k ≡ Less) (keys_of es)
above id [] all = tt
above id (e ∷ es) all = (is_less (nat_cmp id e.0) (front _ _ all), above id es (rest _ _ all))

keys_in_order : (es : List (ℕ × Unit {0})) → T (is_sorted nat_cmp es) → IsStrictlySortedBy nat_cmp (keys_of es)
unfolding IsStrictlySortedBy
keys_in_order [] sorted = tt
keys_in_order (e ∷ es) sorted = (above e.0 es (front _ _ sorted), keys_in_order es (rest _ _ sorted))

pub ascending_sorted : (areas : List ℕ) → IsStrictlySortedBy nat_cmp (ascending areas)
unfolding ascending
ascending_sorted areas = keys_in_order (entries (set_of areas)) (entries_sorted (set_of areas))

has_key : (areas : List ℕ) (q : ℕ) → contains_key (set_of areas) q ≡ list_any (eq_by_cmp nat_cmp q) areas
has_key areas q = ap is_some (get-from_entries nat_cmp_total (marked areas) q) ∙ found areas q

set_members : (areas : List ℕ) (q : ℕ) → Contains areas q ↔ Contains (keys_of (entries (set_of areas))) q
set_members areas q =
    let is : list_any (eq_by_cmp nat_cmp q) areas ≡ list_any (eq_by_cmp nat_cmp q) (keys_of (entries (set_of areas))) = sym (has_key areas q) ∙ contains_key-keys (set_of areas) q in (
      λ has. Contains-from_any (tells_apart nat_cmp-IsAntisymmetric) q _ (sym is ∙ list_any-from_Contains (eq_by_cmp_equiv nat_cmp_total) q areas has),
      λ has. Contains-from_any (tells_apart nat_cmp-IsAntisymmetric) q areas (is ∙ list_any-from_Contains (eq_by_cmp_equiv nat_cmp_total) q _ has),
    )

pub ascending_of : (areas ids : List ℕ) → IsStrictlySortedBy nat_cmp ids → ((k : ℕ) → Contains ids k ↔ Contains areas k) → ids ≡ ascending areas
unfolding ascending
ascending_of areas ids sorted same =
    same_list ids (keys_of (entries (set_of areas))) sorted (keys_in_order (entries (set_of areas)) (entries_sorted (set_of areas)))
    (λ k. (λ has. (set_members areas k).0 ((same k).0 has), λ has. (same k).1 ((set_members areas k).1 has)))

-- ---- what sorting leaves

equal_ids : nat_eq ≡ eq_by_cmp nat_cmp
equal_ids i n m = unsigned_ties n m i

module _ (all sorted kept : List ℕ) (moved : IsPermutation all sorted) (order : IsSorted nat_cmp sorted) (filtered : IsFiltered (DiffersFromLast nat_eq) [] sorted kept) where
  kept_is : kept ≡ dedup (eq_by_cmp nat_cmp) sorted
  kept_is = dedup_is nat_eq sorted kept filtered ∙ ap (λ (same : ℕ → ℕ → Bool). dedup same sorted) equal_ids

  strictly : IsStrictlySortedBy nat_cmp kept
  strictly = subst (IsStrictlySortedBy nat_cmp) (sym kept_is) (IsStrictlySortedBy-dedup nat_cmp_total (λ v w. refl) sorted order)

  same_members : (k : ℕ) → Contains kept k ↔ Contains all k
  same_members k = (
    λ c. Contains-permutation sorted all k (IsPermutation-sym all sorted moved) (Contains-from_dedup (eq_by_cmp nat_cmp) sorted k (subst (λ (ks : List ℕ). Contains ks k) kept_is c)),
    λ c. subst (λ (ks : List ℕ). Contains ks k) (sym kept_is) (Contains-dedup (eq_by_cmp_equiv nat_cmp_total) (tells_apart nat_cmp-IsAntisymmetric) sorted k (Contains-permutation all sorted k moved c)),
  )

  pub sorted_once : kept ≡ ascending all
  sorted_once = ascending_of all kept strictly same_members
