-- The effect of a second on the columns of a database.
use Rattle.std.proofs.Common.{◌≡◌, ℕ, ◌+◌, ◌≤◌, Bool, true, false, cond, T, List, [], ◌∷◌, map, Some, count_by, refl, sym, ap, subst, ◌∙◌, arith}
use Rattle.std.specs.Prelude.{◌&&◌, min, option_map, All}
use Rattle.std.specs.Ordering.{is_lt}
use Rattle.std.specs.List.{AllByRecursion}
use Rattle.std.specs.Map.{keys_of, values_of}
use Rattle.std.specs.FinMap.{entries, get, values, find, is_sorted, entries_sorted, get-entries, get-from_sorted, same_map}
use Rattle.std.specs.FinMap.Entries.{below_all}
use Rattle.std.proofs.lemmas.List.{length-map}
use Rattle.std.proofs.lemmas.List.Sums.{sum_by-cons}
use Rattle.lanes.specs.Ages as lane
use Rattle.ospf_types.specs.declared.key.Key.{Key}
use Rattle.ospf_types.specs.Keys.{key_cmp}
use Rattle.ospf_types.specs.Lsa.{MaxAge}
use Rattle.ospf_types.proofs.Orders.{key_total, key_exact}
use Rattle.lsa_codec.proofs.Ages.{IsLegal-with_age}
use Rattle.lsdb.specs.Columns.{is_key, present, IsOwn, AreColumns}
use Rattle.lsdb.specs.Databases.{Database, aged, all_aged, comes_to_max_age, age_of}
use Rattle.lsdb.proofs.Entries.{get_is, found_values, count_values}
use Rattle.lsdb.proofs.Rows.{Entry, age_in, keys_present, ages_present}
use Rattle.lsdb.proofs.Stored.{map_of, unique_present, age_within, get_or-default}

abbrev later : Entry → Entry
later e = (e.0, aged e.1)

below_later : (k : Key) (es : List Entry) → below_all key_cmp k (map later es) ≡ below_all key_cmp k es
below_later k [] = refl
below_later k (e ∷ es) = ap (λ (b : Bool). is_lt (key_cmp k e.0) && b) (below_later k es)

sorted_later : (es : List Entry) → is_sorted key_cmp (map later es) ≡ is_sorted key_cmp es
sorted_later [] = refl
sorted_later (e ∷ es) = ap (λ (b : Bool). b && is_sorted key_cmp (map later es)) (below_later e.0 es) ∙ ap (λ (b : Bool). below_all key_cmp e.0 es && b) (sorted_later es)

find_later : (q : Key) (es : List Entry) → find key_cmp q (map later es) ≡ option_map aged (find key_cmp q es)
find_later q [] = refl
find_later q (e ∷ es) =
    elim (is_key q e.0) as (λ b. cond b (Some (aged e.1)) (find key_cmp q (map later es)) ≡ option_map aged (cond b (Some e.1) (find key_cmp q es))) [
      | true ↦ refl
      | false ↦ find_later q es
    ]

-- each key has its LSA a second later
get-all_aged : (d : Database) (q : Key) → get (all_aged d) q ≡ option_map aged (get d q)
get-all_aged d q =
    get-from_sorted key_cmp (map later (entries d)) q (subst T (sym (sorted_later (entries d))) (entries_sorted d))
    ∙ find_later q (entries d) ∙ ap (option_map aged) (sym (get-entries d q))

present_later : (es : List Entry) (ages : List ℕ) → present es (map lane.next_age ages) ≡ map later (present es ages)
present_later [] ages = refl
present_later (e ∷ es) [] = refl
present_later (e ∷ es) (age ∷ ages) = ap (λ (fs : List Entry). later (e.0, record e.1 { header = record e.1.header { age = age } }) ∷ fs) (present_later es ages)

own_later : (rows : List Entry) → AllByRecursion IsOwn rows → AllByRecursion IsOwn (map later rows)
own_later [] own = tt
own_later (r ∷ rows) own = ((own.0.0, IsLegal-with_age r.1 (min (r.1.header.age + 1) MaxAge) own.0.1 (omega arith)), own_later rows own.1)

count_ages : (rows : List Entry) → count_by lane.comes_to_max_age (map age_in rows) ≡ count_by comes_to_max_age (values_of rows)
count_ages [] = refl
count_ages (r ∷ rows) =
    sum_by-cons (λ age. cond (lane.comes_to_max_age age) 1 0) (age_in r) (map age_in rows)
    ∙ ap (λ n. cond (comes_to_max_age r.1) 1 0 + n) (count_ages rows)
    ∙ sym (sum_by-cons (λ l. cond (comes_to_max_age l) 1 0) r.1 (values_of rows))

module _ {es : List Entry} {ages kinds routers : List ℕ} {limit : ℕ} (c : AreColumns es ages kinds routers limit) where
  pub all_young : All (λ age. age ≤ lane.MaxAge) ages
  all_young k d lt = subst (λ n. n ≤ MaxAge) (get_or-default ages k 0 d lt) (age_within c k (omega (arith, lt, c.a_row_each)))

  pub later_columns : AreColumns es (map lane.next_age ages) kinds routers limit
  later_columns = record {
    unique = c.unique;
    a_row_each = length-map ages lane.next_age ∙ c.a_row_each;
    own = subst (AllByRecursion IsOwn) (sym (present_later es ages)) (own_later (present es ages) c.own);
    kinds_are = c.kinds_are;
    routers_are = c.routers_are;
    within = c.within;
    few = c.few;
  }

  pub map_later : map_of (present es (map lane.next_age ages)) ≡ all_aged (map_of (present es ages))
  map_later = same_map key_total key_exact (map_of (present es (map lane.next_age ages))) (all_aged (map_of (present es ages))) (λ q.
      ap (λ (rows : List Entry). get (map_of rows) q) (present_later es ages) ∙ get_is key_total key_exact (map later (present es ages)) q ∙ find_later q (present es ages)
      ∙ ap (option_map aged) (sym (get_is key_total key_exact (present es ages) q)) ∙ sym (get-all_aged (map_of (present es ages)) q))

  pub count_came : count_by lane.comes_to_max_age ages ≡ count_by comes_to_max_age (values (map_of (present es ages)))
  count_came =
      ap (count_by lane.comes_to_max_age) (sym (ages_present es ages c.a_row_each)) ∙ count_ages (present es ages)
      ∙ sym (count_values key_total key_exact comes_to_max_age (present es ages) (unique_present c))

  -- the age of each key belongs to its row
  pub ages_are : ages ≡ map (λ key. age_of (get (map_of (present es ages)) key)) (keys_of es)
  ages_are =
      sym (ages_present es ages c.a_row_each) ∙ sym (found_values key_total key_exact age_of (present es ages) (unique_present c))
      ∙ ap (map (λ key. age_of (find key_cmp key (present es ages)))) (keys_present es ages c.a_row_each)
      ∙ (λ i. map (λ key. age_of (sym (get_is key_total key_exact (present es ages) key) i)) (keys_of es))
