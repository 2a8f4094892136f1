-- Lists of keys with values, and the finite maps that they make.
use Rattle.std.proofs.Common.{◌≡◌, ℕ, zero, suc, ◌+◌, Bool, true, false, cond, List, [], ◌∷◌, length, map, count_by, Option, Some, None, Ordering, refl, sym, ap, subst, ◌∙◌, arith}
use Rattle.std.specs.Prelude.{position, is_some, slice_get, swap_remove, if◌then◌else◌}
use Rattle.std.specs.Ordering.{eq_by_cmp, is_eq}
use Rattle.std.specs.declared.cmp.Ordering.TheVariants.{Less, Equal, Greater}
use Rattle.std.specs.FinMap.Entries.{by_order}
use Rattle.std.proofs.lemmas.List.Sums.{sum_by-cons}
use Rattle.std.specs.Cmp.{IsTotalOrder, eq_by_cmp_equiv}
use Rattle.std.specs.List.{AllByRecursion, IsDistinct}
use Rattle.std.specs.Map.{keys_of, values_of, lookup}
use Rattle.std.specs.FinMap.{find, put, values, entries, entries-insert, get-entries, len-entries, get, insert, remove, len, contains_key, from_entries, get-from_entries, get-insert, get-remove, len-insert, len-empty, same_map}
use Rattle.std.proofs.lemmas.Map.Lookups.{CmpEqualImpliesEq}
use Rattle.std.proofs.lemmas.Map.Views.{tells_apart}
use Rattle.std.proofs.lemmas.Map.Keys.{IsDistinct-head, IsDistinct-tail}
use Rattle.indexmap.specs.IndexMap.{insert_entry}
use Rattle.indexmap.proofs.MapLemmas.{Found-position, Missing-position}
use Rattle.indexmap.proofs.RemoveLemmas.{swap_out}

no_entries : {X : Type 0} (xs : List X) → length xs ≡ 0 → xs ≡ []
no_entries [] e = refl
no_entries (x ∷ xs) e = absurd (omega arith)

module _ {K X : Type 0} (R : K → K → Ordering) where
  pub find-lookup : (q : K) (es : List (K × X)) → find R q es ≡ lookup (eq_by_cmp R q) es
  find-lookup q [] = refl
  find-lookup q (e ∷ es) = ap (cond (eq_by_cmp R q e.0) (Some e.1)) (find-lookup q es)

  -- a key that is none of these is not found
  pub find_none : (q : K) (es : List (K × X)) → AllByRecursion (λ k. eq_by_cmp R q k ≡ false) (keys_of es) → find R q es ≡ None
  find_none q [] none = refl
  find_none q (e ∷ es) none = ap (λ b. cond b (Some e.1) (find R q es)) none.0 ∙ find_none q es none.1

module _ {K X : Type 0} {R : K → K → Ordering} (o : IsTotalOrder R) (exact : CmpEqualImpliesEq R) where
  -- what an entry that is put among the others finds
  pub find-insert_entry : (k : K) (v : X) (es : List (K × X)) (q : K) → find R q (insert_entry (eq_by_cmp R) es k v) ≡ cond (eq_by_cmp R q k) (Some v) (find R q es)
  find-insert_entry k v [] q = refl
  find-insert_entry k v (e ∷ es) q =
      elim (eq_by_cmp R k e.0) as (λ b. eq_by_cmp R k e.0 ≡ b → find R q (if b then (e.0, v) ∷ es else e ∷ insert_entry (eq_by_cmp R) es k v) ≡ cond (eq_by_cmp R q k) (Some v) (cond (eq_by_cmp R q e.0) (Some e.1) (find R q es))) [
        | true ↦ λ is.
            subst (λ (x : K). cond (eq_by_cmp R q x) (Some v) (find R q es) ≡ cond (eq_by_cmp R q k) (Some v) (cond (eq_by_cmp R q x) (Some e.1) (find R q es))) (tells_apart exact k e.0 is)
            (elim (eq_by_cmp R q k) as (λ b. cond b (Some v) (find R q es) ≡ cond b (Some v) (cond b (Some e.1) (find R q es))) [ true ↦ refl | false ↦ refl ])
        | false ↦ λ is.
            ap (cond (eq_by_cmp R q e.0) (Some e.1)) (find-insert_entry k v es q)
            ∙ elim (eq_by_cmp R q e.0) as (λ b. eq_by_cmp R q e.0 ≡ b → cond b (Some e.1) (cond (eq_by_cmp R q k) (Some v) (find R q es)) ≡ cond (eq_by_cmp R q k) (Some v) (cond b (Some e.1) (find R q es))) [
              | true ↦ λ here.
                  let apart : eq_by_cmp R q k ≡ false = ap (λ (x : K). eq_by_cmp R x k) (tells_apart exact q e.0 here) ∙ (eq_by_cmp_equiv o).symm e.0 k ∙ is in
                  ap (λ b. cond b (Some v) (Some e.1)) (sym apart) ∙ refl
              | false ↦ λ here. refl
            ] refl
      ] refl

  pub get_is : (es : List (K × X)) (q : K) → get (from_entries {R = R} es) q ≡ find R q es
  get_is es q = get-from_entries o es q

  -- the map of entries that find what others do, but for one key
  pub inserted : (es fs : List (K × X)) (k : K) (v : X) → ((q : K) → find R q fs ≡ cond (eq_by_cmp R q k) (Some v) (find R q es)) → from_entries {R = R} fs ≡ insert (from_entries es) k v
  inserted es fs k v finds = same_map o exact (from_entries {R = R} fs) (insert (from_entries {R = R} es) k v) (λ q.
      get_is fs q ∙ finds q ∙ ap (cond (eq_by_cmp R q k) (Some v)) (sym (get_is es q)) ∙ sym (get-insert o (from_entries es) k v q))

  pub removed : (es fs : List (K × X)) (k : K) → ((q : K) → find R q fs ≡ cond (eq_by_cmp R q k) None (find R q es)) → from_entries {R = R} fs ≡ remove (from_entries es) k
  removed es fs k finds = same_map o exact (from_entries {R = R} fs) (remove (from_entries {R = R} es) k) (λ q.
      get_is fs q ∙ finds q ∙ ap (cond (eq_by_cmp R q k) None) (sym (get_is es q)) ∙ sym (get-remove o (from_entries es) k q))

  -- as many keys as entries, where no key occurs twice
  pub len_is : (es : List (K × X)) → IsDistinct (eq_by_cmp R) (keys_of es) → len (from_entries {R = R} es) ≡ length es
  len_is [] unique = len-empty R X
  len_is (e ∷ es) unique =
      let absent : contains_key (from_entries {R = R} es) e.0 ≡ false = ap is_some (get_is es e.0 ∙ find_none R e.0 es (IsDistinct-head (eq_by_cmp R) e.0 (keys_of es) unique)) in
      let rest = len_is es (IsDistinct-tail (eq_by_cmp R) e.0 (keys_of es) unique) in
      len-insert o (from_entries es) e.0 e.1 ∙ ap (λ b. cond b (len (from_entries {R = R} es)) (len (from_entries {R = R} es) + 1)) absent ∙ ap (λ n. n + 1) rest ∙ omega arith

  -- the entry at the first place of a key is found under it
  pub find_at : (es : List (K × X)) (k : K) (i : ℕ) (e : K × X) → position (eq_by_cmp R k) (keys_of es) ≡ Some i → slice_get es i ≡ Some e → find R k es ≡ Some e.1
  find_at es k i e at here = find-lookup R k es ∙ (Found-position (eq_by_cmp R k) es i at).value ∙ value_at es i e here
    where
      value_at : (es : List (K × X)) (i : ℕ) (e : K × X) → slice_get es i ≡ Some e → slice_get (values_of es) i ≡ Some e.1
      value_at [] i e here = absurd cc
      value_at (f ∷ es) zero e here = cc
      value_at (f ∷ es) (suc i) e here = value_at es i e here

  -- a key with no place is not found
  pub find_missing : (es : List (K × X)) (k : K) → position (eq_by_cmp R k) (keys_of es) ≡ None → find R k es ≡ None
  find_missing es k none = find-lookup R k es ∙ (Missing-position (eq_by_cmp R k) es none).value

  -- the last entry in place of one: keys stay apart, and that one's key has gone
  pub swapped : (es : List (K × X)) (k : K) (i : ℕ) (e : K × X) → IsDistinct (eq_by_cmp R) (keys_of es) → position (eq_by_cmp R k) (keys_of es) ≡ Some i → slice_get es i ≡ Some e
      → IsDistinct (eq_by_cmp R) (keys_of (swap_remove es i e)) × (from_entries {R = R} (swap_remove es i e) ≡ remove (from_entries es) k)
  swapped es k i e unique at here =
      let laws = eq_by_cmp_equiv o in
      let out = swap_out (eq_by_cmp R) laws (eq_by_cmp R k) (laws.congr k) es i e at here unique (swap_remove es i e) refl in (
        out.unique,
        removed es (swap_remove es i e) k (λ q. find-lookup R q (swap_remove es i e) ∙ out.updated.0 q ∙ ap (λ b. cond b None (lookup (eq_by_cmp R q) es)) (laws.symm k q) ∙ ap (cond (eq_by_cmp R q k) None) (sym (find-lookup R q es))),
      )

  -- each key of some finds, among those whose keys are apart, its own entry's value
  skip_first : {Y : Type 0} (g : Option X → Y) (e : K × X) (es : List (K × X)) (ks : List K) → AllByRecursion (λ y. eq_by_cmp R e.0 y ≡ false) ks → map (λ k. g (find R k (e ∷ es))) ks ≡ map (λ k. g (find R k es)) ks
  skip_first g e es [] apart = refl
  skip_first g e es (k ∷ ks) apart =
      (λ i. g (cond (((eq_by_cmp_equiv o).symm k e.0 ∙ apart.0) i) (Some e.1) (find R k es)) ∷ skip_first g e es ks apart.1 i)

  pub found_values : {Y : Type 0} (g : Option X → Y) (es : List (K × X)) → IsDistinct (eq_by_cmp R) (keys_of es) → map (λ k. g (find R k es)) (keys_of es) ≡ map (λ e. g (Some e.1)) es
  found_values g [] unique = refl
  found_values {Y} g (e ∷ es) unique =
      (λ i. g (cond ((eq_by_cmp_equiv o).refl e.0 i) (Some e.1) (find R e.0 es)) ∷ skip_first g e es (keys_of es) (IsDistinct-head (eq_by_cmp R) e.0 (keys_of es) unique) i)
      ∙ ap (λ (ys : List Y). g (Some e.1) ∷ ys) (found_values g es (IsDistinct-tail (eq_by_cmp R) e.0 (keys_of es) unique))

  -- a count of the values
  count_put : (p : X → Bool) (k : K) (v : X) (es : List (K × X)) → find R k es ≡ None → count_by p (values_of (put R k v es)) ≡ cond (p v) 1 0 + count_by p (values_of es)
  count_put p k v [] none = sum_by-cons (λ x. cond (p x) 1 0) v []
  count_put p k v (e ∷ es) none =
      elim (R k e.0) as (λ r. cond (is_eq r) (Some e.1) (find R k es) ≡ None → count_by p (values_of (by_order r ((k, v) ∷ e ∷ es) ((e.0, v) ∷ es) (e ∷ put R k v es))) ≡ cond (p v) 1 0 + count_by p (e.1 ∷ values_of es)) [
        | Less ↦ λ is. sum_by-cons (λ x. cond (p x) 1 0) v (e.1 ∷ values_of es)
        | Equal ↦ λ is. absurd cc
        | Greater ↦ λ is. omega (arith, sum_by-cons (λ x. cond (p x) 1 0) e.1 (values_of (put R k v es)), sum_by-cons (λ x. cond (p x) 1 0) e.1 (values_of es), count_put p k v es is)
      ] none

  pub count_values : (p : X → Bool) (es : List (K × X)) → IsDistinct (eq_by_cmp R) (keys_of es) → count_by p (values (from_entries {R = R} es)) ≡ count_by p (values_of es)
  count_values p [] unique = ap (λ (fs : List (K × X)). count_by p (values_of fs)) (no_entries (entries (from_entries {X = X} {R = R} [])) (sym (len-entries (from_entries {X = X} {R = R} [])) ∙ len-empty R X))
  count_values p (e ∷ es) unique =
      let absent : find R e.0 (entries (from_entries {R = R} es)) ≡ None = sym (get-entries (from_entries {R = R} es) e.0) ∙ get_is es e.0 ∙ find_none R e.0 es (IsDistinct-head (eq_by_cmp R) e.0 (keys_of es) unique) in
      ap (λ (fs : List (K × X)). count_by p (values_of fs)) (entries-insert o (from_entries es) e.0 e.1) ∙ count_put p e.0 e.1 (entries (from_entries {R = R} es)) absent
      ∙ ap (λ n. cond (p e.1) 1 0 + n) (count_values p es (IsDistinct-tail (eq_by_cmp R) e.0 (keys_of es) unique)) ∙ sym (sum_by-cons (λ x. cond (p x) 1 0) e.1 (values_of es))
