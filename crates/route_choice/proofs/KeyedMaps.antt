-- The entries of a map by keys of any type, and the finite map that they make.
use Rattle.std.proofs.Common.{◌≡◌, ◌≢◌, ◌+◌, ◌⊎◌, inl, inr, ⊎_elim, Bool, true, false, true≢false, cond, List, [], ◌∷◌, length, Option, Some, None, Ordering, refl, sym, ap, subst, ◌∙◌, arith}
use Rattle.std.specs.Prelude.{◌↔◌, is_some, map, option_map, Contains, IsSome}
use Rattle.std.specs.Ordering.{eq_by_cmp}
use Rattle.std.specs.Cmp.{IsTotalOrder, eq_by_cmp_equiv}
use Rattle.std.specs.List.{AllByRecursion, IsDistinct}
use Rattle.std.specs.Map.{keys_of, lookup}
use Rattle.std.specs.FinMap.{FinMap, IsAntisymmetric, find, get, insert, remove, len, contains_key, from_entries, get-from_entries, get-insert, get-remove, len-insert, len-empty, same_map}
use Rattle.std.proofs.lemmas.Map.Keys.{IsDistinct-head, IsDistinct-tail}
use Rattle.std.proofs.lemmas.Map.Views.{tells_apart}
use Rattle.ospf_types.proofs.Elements.{no_element, first_element, later_element, first_or_later}
use Rattle.ospf_types.proofs.Maps.{find-lookup}

-- ---- entries whose values are seen otherwise

module _ {K X Y : Type 0} (view : X → Y) where
  abbrev pub viewed : List (K × X) → List (K × Y)
  viewed es = map (λ (e : K × X). (e.0, view e.1)) es

  -- a lookup among them sees the value
  pub lookup_viewed : (test : K → Bool) (es : List (K × X)) → lookup test (viewed es) ≡ option_map view (lookup test es)
  lookup_viewed test [] = refl
  lookup_viewed test (e ∷ es) =
      elim (test e.0) as (λ b. cond b (Some (view e.1)) (lookup test (viewed es)) ≡ option_map view (cond b (Some e.1) (lookup test es))) [ true ↦ refl | false ↦ lookup_viewed test es ]

  -- what an update leaves at each key, seen so
  pub updated_viewed : (equals : K → K → Bool) (es fs : List (K × X)) (k : K) (new : Option X) → ((q : K) → lookup (equals q) fs ≡ cond (equals k q) new (lookup (equals q) es))
      → (q : K) → lookup (equals q) (viewed fs) ≡ cond (equals k q) (option_map view new) (lookup (equals q) (viewed es))
  updated_viewed equals es fs k new updates q =
      lookup_viewed (equals q) fs ∙ ap (option_map view) (updates q) ∙ at (equals k q) ∙ ap (cond (equals k q) (option_map view new)) (sym (lookup_viewed (equals q) es))
    where
      at : (b : Bool) → option_map view (cond b new (lookup (equals q) es)) ≡ cond b (option_map view new) (option_map view (lookup (equals q) es))
      at true = refl
      at false = refl

-- ---- at one key, and elsewhere

-- a key ties with no other
pub apart_by_order : {K : Type 0} {cmp : K → K → Ordering} → IsAntisymmetric cmp → (k q : K) → q ≢ k → eq_by_cmp cmp q k ≡ false
apart_by_order {cmp = cmp} exact k q other =
    elim (eq_by_cmp cmp q k) as (λ b. eq_by_cmp cmp q k ≡ b → b ≡ false) [ true ↦ λ tied. absurd (other (tells_apart exact q k tied)) | false ↦ λ tied. refl ] refl

-- a key is this one, or another
pub one_or_other : {K : Type 0} {cmp : K → K → Ordering} → IsTotalOrder cmp → IsAntisymmetric cmp → (k q : K) → (q ≡ k) ⊎ (q ≢ k)
one_or_other {K = K} {cmp = cmp} total exact k q =
    elim (eq_by_cmp cmp q k) as (λ b. eq_by_cmp cmp q k ≡ b → (q ≡ k) ⊎ (q ≢ k)) [
      | true ↦ λ tied. inl (tells_apart exact q k tied)
      | false ↦ λ apart. inr (λ e. true≢false (sym (subst (λ (z : K). eq_by_cmp cmp q z ≡ true) e ((eq_by_cmp_equiv total).refl q)) ∙ apart))
    ] refl

-- a key is among those of a list, or it is not
pub listed_or_not : {K : Type 0} {cmp : K → K → Ordering} → IsTotalOrder cmp → IsAntisymmetric cmp → (k : K) (ks : List K) → Contains ks k ⊎ (Contains ks k → ⊥)
listed_or_not total exact k [] = inr (λ c. no_element k c)
listed_or_not {K = K} total exact k (q ∷ qs) = elim (one_or_other total exact q k) [
  | inl e ↦ inl (subst (λ (x : K). Contains (q ∷ qs) x) (sym e) (first_element q qs))
  | inr other ↦ elim (listed_or_not total exact k qs) [
    | inl later ↦ inl (later_element q k qs later)
    | inr absent ↦ inr (λ c. elim (first_or_later q k qs c) [ inl e ↦ other e | inr later ↦ absent later ])
  ]
]

module _ {K X : Type 0} {cmp : K → K → Ordering} (total : IsTotalOrder cmp) where
  -- a value that is set
  pub set_here : (m : FinMap cmp X) (k : K) (x : X) → get (insert m k x) k ≡ Some x
  set_here m k x = get-insert total m k x k ∙ ap (λ b. cond b (Some x) (get m k)) ((eq_by_cmp_equiv total).refl k)

  pub set_elsewhere : IsAntisymmetric cmp → (m : FinMap cmp X) (k q : K) (x : X) → q ≢ k → get (insert m k x) q ≡ get m q
  set_elsewhere exact m k q x other = get-insert total m k x q ∙ ap (λ b. cond b (Some x) (get m q)) (apart_by_order exact k q other)

  -- one that is taken out
  pub gone_here : (m : FinMap cmp X) (k : K) → get (remove m k) k ≡ None
  gone_here m k = get-remove total m k k ∙ ap (λ b. cond b None (get m k)) ((eq_by_cmp_equiv total).refl k)

  pub gone_elsewhere : IsAntisymmetric cmp → (m : FinMap cmp X) (k q : K) → q ≢ k → get (remove m k) q ≡ get m q
  gone_elsewhere exact m k q other = get-remove total m k q ∙ ap (λ b. cond b None (get m q)) (apart_by_order exact k q other)

-- ---- the map of the entries, where `==` tests what the order does not tell apart

module _ {K X : Type 0} {cmp : K → K → Ordering} (total : IsTotalOrder cmp) (exact : IsAntisymmetric cmp) {equals : K → K → Bool} (equals_order : equals ≡ eq_by_cmp cmp) where
  abbrev pub map_of : List (K × X) → FinMap cmp X
  map_of es = from_entries {R = cmp} es

  -- what a lookup by `==` gives
  pub looked_up : (es : List (K × X)) (q : K) → lookup (equals q) es ≡ get (map_of es) q
  looked_up es q =
      ap (λ (eq : K → K → Bool). lookup (eq q) es) equals_order ∙ sym (find-lookup cmp q es) ∙ sym (get-from_entries total es q)

  -- what an update at one key leaves at each
  found_after : (es fs : List (K × X)) (k : K) (new : Option X) → ((q : K) → lookup (equals q) fs ≡ cond (equals k q) new (lookup (equals q) es))
      → (q : K) → get (map_of fs) q ≡ cond (eq_by_cmp cmp q k) new (get (map_of es) q)
  found_after es fs k new updates q =
      sym (looked_up fs q) ∙ updates q ∙ (λ i. cond (equals_order i k q) new (looked_up es q i))
      ∙ ap (λ b. cond b new (get (map_of es) q)) ((eq_by_cmp_equiv total).symm k q)

  pub inserted : (es fs : List (K × X)) (k : K) (x : X) → ((q : K) → lookup (equals q) fs ≡ cond (equals k q) (Some x) (lookup (equals q) es)) → map_of fs ≡ insert (map_of es) k x
  inserted es fs k x updates = same_map total exact (map_of fs) (insert (map_of es) k x) (λ q.
      found_after es fs k (Some x) updates q ∙ sym (get-insert total (map_of es) k x q))

  pub removed : (es fs : List (K × X)) (k : K) → ((q : K) → lookup (equals q) fs ≡ cond (equals k q) None (lookup (equals q) es)) → map_of fs ≡ remove (map_of es) k
  removed es fs k updates = same_map total exact (map_of fs) (remove (map_of es) k) (λ q.
      found_after es fs k None updates q ∙ sym (get-remove total (map_of es) k q))

  -- a key that is none of these is not found
  find_none : (q : K) (es : List (K × X)) → AllByRecursion (λ k. eq_by_cmp cmp q k ≡ false) (keys_of es) → find cmp q es ≡ None
  find_none q [] none = refl
  find_none q (e ∷ es) none = ap (λ b. cond b (Some e.1) (find cmp q es)) none.0 ∙ find_none q es none.1

  -- there are this many keys as entries, where none occurs twice
  len_distinct : (es : List (K × X)) → IsDistinct (eq_by_cmp cmp) (keys_of es) → len (map_of es) ≡ length es
  len_distinct [] unique = len-empty cmp X
  len_distinct (e ∷ es) unique =
      let absent : contains_key (map_of es) e.0 ≡ false =
      ap is_some (get-from_entries total es e.0 ∙ find_none e.0 es (IsDistinct-head (eq_by_cmp cmp) e.0 (keys_of es) unique)) in
      let rest = len_distinct es (IsDistinct-tail (eq_by_cmp cmp) e.0 (keys_of es) unique) in
      len-insert total (map_of es) e.0 e.1 ∙ ap (λ b. cond b (len (map_of es)) (len (map_of es) + 1)) absent ∙ ap (λ n. n + 1) rest ∙ omega arith

  pub len_is : (es : List (K × X)) → IsDistinct equals (keys_of es) → len (map_of es) ≡ length es
  len_is es unique = len_distinct es (subst (λ (eq : K → K → Bool). IsDistinct eq (keys_of es)) equals_order unique)

-- ---- the same, of entries whose values are seen otherwise

module _ {K X Y : Type 0} (view : X → Y) {cmp : K → K → Ordering} (total : IsTotalOrder cmp) (exact : IsAntisymmetric cmp) {equals : K → K → Bool} (equals_order : equals ≡ eq_by_cmp cmp) where
  abbrev pub view_of : List (K × X) → FinMap cmp Y
  view_of es = from_entries {R = cmp} (viewed view es)

  pub looked_up_viewed : (es : List (K × X)) (q : K) → option_map view (lookup (equals q) es) ≡ get (view_of es) q
  looked_up_viewed es q = sym (lookup_viewed view (equals q) es) ∙ looked_up total exact equals_order (viewed view es) q

  pub inserted_viewed : (es fs : List (K × X)) (k : K) (x : X) → ((q : K) → lookup (equals q) fs ≡ cond (equals k q) (Some x) (lookup (equals q) es)) → view_of fs ≡ insert (view_of es) k (view x)
  inserted_viewed es fs k x updates = inserted total exact equals_order (viewed view es) (viewed view fs) k (view x) (updated_viewed view equals es fs k (Some x) updates)

  pub removed_viewed : (es fs : List (K × X)) (k : K) → ((q : K) → lookup (equals q) fs ≡ cond (equals k q) None (lookup (equals q) es)) → view_of fs ≡ remove (view_of es) k
  removed_viewed es fs k updates = removed total exact equals_order (viewed view es) (viewed view fs) k (updated_viewed view equals es fs k None updates)

-- ---- which keys have a value

module _ {K X : Type 0} {cmp : K → K → Ordering} (total : IsTotalOrder cmp) (exact : IsAntisymmetric cmp) where
  found_there : (k : K) (es : List (K × X)) → Contains (keys_of es) k → IsSome (find cmp k es)
  found_there k [] c = absurd (no_element k c)
  found_there k (e ∷ es) c =
      ⊎_elim (λ (same : k ≡ e.0). subst (λ b. IsSome (cond b (Some e.1) (find cmp k es))) (sym (subst (λ (q : K). eq_by_cmp cmp k q ≡ true) same ((eq_by_cmp_equiv total).refl k))) refl)
      (λ (later : Contains (keys_of es) k). elim (eq_by_cmp cmp k e.0) as (λ b. IsSome (cond b (Some e.1) (find cmp k es))) [ true ↦ refl | false ↦ found_there k es later ])
      (first_or_later e.0 k (keys_of es) c)

  there_found : (k : K) (es : List (K × X)) → IsSome (find cmp k es) → Contains (keys_of es) k
  there_found k [] found = absurd cc
  there_found k (e ∷ es) found =
      elim (eq_by_cmp cmp k e.0) as (λ b. eq_by_cmp cmp k e.0 ≡ b → IsSome (cond b (Some e.1) (find cmp k es)) → Contains (e.0 ∷ keys_of es) k) [
        | true ↦ λ tied is. subst (λ (q : K). Contains (q ∷ keys_of es) k) (tells_apart exact k e.0 tied) (first_element k (keys_of es))
        | false ↦ λ tied is. later_element e.0 k (keys_of es) (there_found k es is)
      ] refl found

  -- the keys of the entries are those that have a value
  pub keys_there : (es : List (K × X)) (k : K) → Contains (keys_of es) k ↔ IsSome (get (from_entries {R = cmp} es) k)
  keys_there es k =
      let is = get-from_entries total es k in
      (λ c. subst (λ (o : Option X). IsSome o) (sym is) (found_there k es c), λ found. there_found k es (subst (λ (o : Option X). IsSome o) is found))
