-- The LSAs of a database in the order of their keys, found by keys that were sorted.
use Rattle.std.proofs.Common.{◌≡◌, ℕ, Bool, true, false, cond, T, List, [], ◌∷◌, Option, Some, None, refl, sym, ap, subst, ◌∙◌}
use Rattle.std.specs.Prelude.{◌&&◌, ◌||◌, is_some, option_map}
use Rattle.std.specs.List.{AllByRecursion, IsDistinct, list_any, filter_map, cons_option}
use Rattle.std.specs.List.{dedup, dedup_from}
use Rattle.std.specs.List.Sorted.{IsSorted, IsStrictlySortedBy, IsPermutation}
use Rattle.std.specs.Map.{keys_of, values_of}
use Rattle.std.specs.Ordering.{is_lt}
use Rattle.std.specs.FinMap.{find, get, values, entries, entries_sorted, get-entries, is_sorted}
use Rattle.std.specs.FinMap.Entries.{below_all, same_entries, is_some-find}
use Rattle.std.specs.declared.cmp.Ordering.TheVariants.{Less}
use Rattle.std.proofs.lemmas.List.Kept.{IsStrictlySortedBy-dedup}
use Rattle.std.proofs.lemmas.List.Sorted.{list_any-IsPermutation}
use Rattle.std.proofs.lemmas.Map.Keys.{IsDistinct-head, IsDistinct-tail, IsDistinct-IsPermutation, sorted_head, sorted_tail}
use Rattle.ospf_types.specs.declared.key.Key.{Key}
use Rattle.ospf_types.specs.Keys.{key_cmp}
use Rattle.ospf_types.specs.Lsa.{Lsa}
use Rattle.ospf_types.proofs.Orders.{key_total, key_exact}
use Rattle.lsdb.specs.Databases.{Database}
use Rattle.lsdb.specs.Columns.{is_key, present, AreColumns}
use Rattle.lsdb.proofs.KeyTests.{key_laws, key_same}
use Rattle.lsdb.proofs.Entries.{get_is}
use Rattle.lsdb.proofs.Rows.{Entry, keys_present}
use Rattle.lsdb.proofs.Stored.{map_of}

-- keys that differ stay as they are where equal neighbours are dropped
no_duplicates : (k : Key) (ks : List Key) → IsDistinct is_key (k ∷ ks) → dedup_from is_key k ks ≡ k ∷ ks
no_duplicates k [] unique = refl
no_duplicates k (l ∷ ks) unique =
    ap (λ b. cond b (dedup_from is_key k ks) (k ∷ dedup_from is_key l ks)) (key_laws.symm l k ∙ (IsDistinct-head is_key k (l ∷ ks) unique).0)
    ∙ ap (λ (more : List Key). k ∷ more) (no_duplicates l ks (IsDistinct-tail is_key k (l ∷ ks) unique))

all_kept : (ks : List Key) → IsDistinct is_key ks → dedup is_key ks ≡ ks
all_kept [] unique = refl
all_kept (k ∷ ks) unique = no_duplicates k ks unique

strictly : (ks : List Key) → IsSorted key_cmp ks → IsDistinct is_key ks → IsStrictlySortedBy key_cmp ks
strictly ks sorted unique = subst (IsStrictlySortedBy key_cmp) (all_kept ks unique) (IsStrictlySortedBy-dedup key_total (λ x y. refl) ks sorted)

both : (a b : Bool) → a ≡ true → T b → T (a && b)
both true b e h = h
both false b e h = absurd cc

none_or : {X : Type 0} (b : Bool) (o : Option X) → o ≡ None → cond b o None ≡ None
none_or true o e = e
none_or false o e = refl

itself : {X : Type 0} (o : Option X) → cond (is_some o) o None ≡ o
itself None = refl
itself (Some x) = refl

module _ (d : Database) where
  pair : Key → Option Entry
  pair k = option_map (λ l. (k, l)) (get d k)

  values_pairs : (ks : List Key) → values_of (filter_map pair ks) ≡ filter_map (get d) ks
  unfolding pair
  values_pairs [] = refl
  values_pairs (k ∷ ks) =
      elim (get d k) as (λ o. values_of (cons_option (option_map (λ l. (k, l)) o) (filter_map pair ks)) ≡ cons_option o (filter_map (get d) ks)) [
        | None ↦ values_pairs ks
        | Some l ↦ ap (λ (ls : List Lsa). l ∷ ls) (values_pairs ks)
      ]

  find_pairs : (q : Key) (ks : List Key) → find key_cmp q (filter_map pair ks) ≡ cond (list_any (is_key q) ks) (get d q) None
  unfolding pair
  find_pairs q [] = refl
  find_pairs q (k ∷ ks) =
      elim (get d k) as (λ o. get d k ≡ o → find key_cmp q (cons_option (option_map (λ l. (k, l)) o) (filter_map pair ks)) ≡ cond (is_key q k || list_any (is_key q) ks) (get d q) None) [
        | None ↦ λ h. find_pairs q ks
            ∙ elim (is_key q k) as (λ b. is_key q k ≡ b → cond (list_any (is_key q) ks) (get d q) None ≡ cond (b || list_any (is_key q) ks) (get d q) None) [
              | true ↦ λ t. let none : get d q ≡ None = ap (get d) (key_same q k t) ∙ h in
                  none_or (list_any (is_key q) ks) (get d q) none ∙ sym none
              | false ↦ λ t. refl
            ] refl
        | Some l ↦ λ h.
            elim (is_key q k) as (λ b. is_key q k ≡ b → cond b (Some l) (find key_cmp q (filter_map pair ks)) ≡ cond (b || list_any (is_key q) ks) (get d q) None) [
              | true ↦ λ t. sym h ∙ ap (get d) (sym (key_same q k t))
              | false ↦ λ t. find_pairs q ks
            ] refl
      ] refl

  below_pairs : (q : Key) (ks : List Key) → AllByRecursion (λ y. key_cmp q y ≡ Less) ks → T (below_all key_cmp q (filter_map pair ks))
  unfolding pair
  below_pairs q [] below = tt
  below_pairs q (k ∷ ks) below =
      elim (get d k) as (λ o. T (below_all key_cmp q (cons_option (option_map (λ l. (k, l)) o) (filter_map pair ks)))) [
        | None ↦ below_pairs q ks below.1
        | Some l ↦ both (is_lt (key_cmp q k)) (below_all key_cmp q (filter_map pair ks)) (ap is_lt below.0) (below_pairs q ks below.1)
      ]

  sorted_pairs : (ks : List Key) → IsStrictlySortedBy key_cmp ks → T (is_sorted key_cmp (filter_map pair ks))
  unfolding pair
  sorted_pairs [] sorted = tt
  sorted_pairs (k ∷ ks) sorted =
      let rest = sorted_pairs ks (sorted_tail key_cmp k ks sorted) in
      elim (get d k) as (λ o. T (is_sorted key_cmp (cons_option (option_map (λ l. (k, l)) o) (filter_map pair ks)))) [
        | None ↦ rest
        | Some l ↦ both (below_all key_cmp k (filter_map pair ks)) (is_sorted key_cmp (filter_map pair ks)) (passed (below_all key_cmp k (filter_map pair ks)) (below_pairs k ks (sorted_head key_cmp k ks sorted))) rest
      ]
    where
      passed : (b : Bool) → T b → b ≡ true
      passed true h = refl
      passed false h = absurd h

  in_order : (ks : List Key) → IsStrictlySortedBy key_cmp ks → ((q : Key) → list_any (is_key q) ks ≡ is_some (get d q)) → filter_map (get d) ks ≡ values d
  in_order ks sorted all =
      sym (values_pairs ks)
      ∙ ap values_of (same_entries key_cmp key_total key_exact (filter_map pair ks) (entries d) (sorted_pairs ks sorted) (entries_sorted d)
      (λ q. find_pairs q ks ∙ ap (λ b. cond b (get d q) None) (all q) ∙ itself (get d q) ∙ get-entries d q))

module _ {es : List Entry} {ages kinds routers : List ℕ} {limit : ℕ} (c : AreColumns es ages kinds routers limit) where
  among : (q : Key) → list_any (is_key q) (keys_of es) ≡ is_some (get (map_of (present es ages)) q)
  among q = ap (list_any (is_key q)) (sym (keys_present es ages c.a_row_each)) ∙ sym (is_some-find key_cmp q (present es ages)) ∙ ap is_some (sym (get_is key_total key_exact (present es ages) q))

  -- what is found by the keys in their order
  pub found_in_order : (ks : List Key) → IsPermutation (keys_of es) ks → IsSorted key_cmp ks → filter_map (get (map_of (present es ages))) ks ≡ values (map_of (present es ages))
  found_in_order ks same sorted =
      in_order (map_of (present es ages)) ks (strictly ks sorted (IsDistinct-IsPermutation is_key key_laws.symm (keys_of es) ks same c.unique))
      (λ q. sym (list_any-IsPermutation (is_key q) (keys_of es) ks same) ∙ among q)
