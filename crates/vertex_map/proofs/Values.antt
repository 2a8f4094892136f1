-- The entries of a map, and the values that they have.
use Rattle.std.proofs.Common.{◌≡◌, ℕ, zero, suc, ◌+◌, ◌-◌, ◌≤◌, Bool, true, false, cond, filter, List, [], ◌∷◌, length, Option, Some, None, refl, sym, ap, subst, ◌∙◌, arith}
use Rattle.std.specs.Prelude.{is_some}
use Rattle.std.specs.Ordering.{eq_by_cmp}
use Rattle.std.specs.Cmp.{IsEquivalence, eq_by_cmp_equiv}
use Rattle.std.specs.List.{AllByRecursion, IsDistinct}
use Rattle.std.specs.Map.{keys_of, lookup, lookup_key}
use Rattle.std.specs.FinMap.{FinMap, get, insert, remove, len, empty_of_len, get-empty, get-insert, get-remove, len-insert, len-remove, len-empty, same_map}
use Rattle.std.proofs.lemmas.Map.Keys.{IsDistinct-head, IsDistinct-tail}
use Rattle.std.proofs.lemmas.Map.Views.{tells_apart}
use Rattle.std.proofs.lemmas.Option.{same_Some}
use Rattle.ospf_types.specs.declared.entry.Vertex.{Vertex}
use Rattle.ospf_types.specs.Vertices.{vertex_cmp}
use Rattle.ospf_types.proofs.VertexOrder.{vertex_total, vertex_exact, vertices_equal, vertices_order, vertices_decided}
use Rattle.vertex_map.specs.Values.{with_value, values_of, inner}

pub vertices_equivalence : IsEquivalence vertices_equal
vertices_equivalence = subst (λ (eq : Vertex → Vertex → Bool). IsEquivalence eq) (sym vertices_order) (eq_by_cmp_equiv vertex_total)

pub same_vertex : (v w : Vertex) → vertices_equal v w ≡ true → v ≡ w
same_vertex v w equal = (vertices_decided v w).0 equal

module _ {V : Type 0} where
  -- what a vertex has once another, or the same, has the value or none
  pub get_with : (m : FinMap vertex_cmp V) (v : Vertex) (o : Option V) (q : Vertex) → get (with_value m v o) q ≡ cond (eq_by_cmp vertex_cmp q v) o (get m q)
  get_with m v (Some x) q = get-insert vertex_total m v x q
  get_with m v None q = get-remove vertex_total m v q

  seen : (b : Bool) (p : ℕ × Option V) (r : Option (ℕ × Option V)) → inner (cond b (Some p) r) ≡ cond b p.1 (inner r)
  seen true p r = refl
  seen false p r = refl

  -- what a lookup finds is the vertex's value
  pub value_is : (es : List (Vertex × (ℕ × Option V))) (q : Vertex) → inner (lookup (vertices_equal q) es) ≡ get (values_of es) q
  value_is [] q = sym (get-empty vertex_cmp q)
  value_is (e ∷ es) q =
      seen (vertices_equal q e.0) e.1 (lookup (vertices_equal q) es)
      ∙ (λ i. cond (vertices_order i q e.0) e.1.1 (value_is es q i)) ∙ sym (get_with (values_of es) e.0 e.1.1 q)

  -- an entry's value belongs to its vertex
  pub found_at : (es : List (Vertex × (ℕ × Option V))) (w v : Vertex) (p : ℕ × Option V) → lookup (vertices_equal w) es ≡ Some p → w ≡ v → get (values_of es) v ≡ p.1
  found_at es w v p is same = sym (value_is es v) ∙ ap inner (subst (λ (x : Vertex). lookup (vertices_equal x) es ≡ Some p) same is)

  pub not_found : (es : List (Vertex × (ℕ × Option V))) (v : Vertex) → lookup (vertices_equal v) es ≡ None → get (values_of es) v ≡ None
  not_found es v none = sym (value_is es v) ∙ ap inner none

  -- a lookup finds the vertex's own entry
  pub key_found : (es : List (Vertex × (ℕ × Option V))) (v w : Vertex) → lookup_key (vertices_equal v) es ≡ Some w → w ≡ v
  key_found [] v w is = absurd cc
  key_found (e ∷ es) v w is = by (key_found es v w) (vertices_equal v e.0) refl is
    where
      by : (lookup_key (vertices_equal v) es ≡ Some w → w ≡ v) → (b : Bool) → vertices_equal v e.0 ≡ b → cond b (Some e.0) (lookup_key (vertices_equal v) es) ≡ Some w → w ≡ v
      by rest true same first = sym (same_vertex v e.0 same ∙ same_Some e.0 w first)
      by rest false other later = rest later

  -- what an update at one vertex leaves
  pub updated : (es fs : List (Vertex × (ℕ × Option V))) (v : Vertex) (p : ℕ × Option V) → ((q : Vertex) → lookup (vertices_equal q) fs ≡ cond (vertices_equal v q) (Some p) (lookup (vertices_equal q) es)) → values_of fs ≡ with_value (values_of es) v p.1
  updated es fs v p updates = same_map vertex_total vertex_exact (values_of fs) (with_value (values_of es) v p.1) (λ q.
      sym (value_is fs q) ∙ ap inner (updates q) ∙ seen (vertices_equal v q) p (lookup (vertices_equal q) es)
      ∙ (λ i. cond (vertices_order i v q) p.1 (value_is es q i))
      ∙ ap (λ b. cond b p.1 (get (values_of es) q)) ((eq_by_cmp_equiv vertex_total).symm v q) ∙ sym (get_with (values_of es) v p.1 q))

  -- entries in which each lookup finds the same have the same values
  pub same_values : (es fs : List (Vertex × (ℕ × Option V))) → ((q : Vertex) → lookup (vertices_equal q) fs ≡ lookup (vertices_equal q) es) → values_of fs ≡ values_of es
  same_values es fs same = same_map vertex_total vertex_exact (values_of fs) (values_of es) (λ q. sym (value_is fs q) ∙ ap inner (same q) ∙ value_is es q)

  -- a vertex without a value is taken out
  pub none_taken : (m : FinMap vertex_cmp V) (v : Vertex) → get m v ≡ None → m ≡ remove m v
  none_taken m v none = same_map vertex_total vertex_exact m (remove m v) (λ q. sym (get-remove vertex_total m v q ∙ there q (eq_by_cmp vertex_cmp q v) refl))
    where
      there : (q : Vertex) (b : Bool) → eq_by_cmp vertex_cmp q v ≡ b → cond b None (get m q) ≡ get m q
      there q true tied = sym (ap (λ (x : Vertex). get m x) (tells_apart vertex_exact q v tied) ∙ none)
      there q false apart = refl

  -- ---- how many values there are

  pub len_inserted : (m : FinMap vertex_cmp V) (v : Vertex) (x : V) (had : Bool) → had ≡ is_some (get m v) → len (insert m v x) ≡ cond had (len m) (len m + 1)
  len_inserted m v x had is = len-insert vertex_total m v x ∙ ap (λ b. cond b (len m) (len m + 1)) (sym is)

  pub len_removed : (m : FinMap vertex_cmp V) (v : Vertex) (had : Bool) → had ≡ is_some (get m v) → len (remove m v) ≡ cond had (len m - 1) (len m)
  len_removed m v had is = len-remove vertex_total m v ∙ ap (λ b. cond b (len m - 1) (len m)) (sym is)

  -- no more than entries
  pub len_most : (es : List (Vertex × (ℕ × Option V))) → len (values_of es) ≤ length es
  len_most [] = omega (arith, len-empty vertex_cmp V)
  len_most (e ∷ es) = with_one (values_of es) e.0 e.1.1 (length es) (len_most es)
    where
      grown : (b : Bool) (n : ℕ) → cond b n (n + 1) ≤ n + 1
      grown true n = omega arith
      grown false n = omega arith

      less : (b : Bool) (n : ℕ) → cond b (n - 1) n ≤ n
      less true n = omega arith
      less false n = omega arith

      with_one : (m : FinMap vertex_cmp V) (v : Vertex) (o : Option V) (n : ℕ) → len m ≤ n → len (with_value m v o) ≤ suc n
      with_one m v (Some x) n most = omega (arith, most, len-insert vertex_total m v x, grown (is_some (get m v)) (len m))
      with_one m v None n most = omega (arith, most, len-remove vertex_total m v, less (is_some (get m v)) (len m))

  -- where a vertex has a value there is one
  pub len_least : (m : FinMap vertex_cmp V) (v : Vertex) → is_some (get m v) ≡ true → 1 ≤ len m
  len_least m v some = by (len m) refl
    where
      by : (n : ℕ) → len m ≡ n → 1 ≤ n
      by zero none = absurd (cc (some, ap (λ (x : FinMap vertex_cmp V). is_some (get x v)) (empty_of_len m none) ∙ ap is_some (get-empty vertex_cmp v)))
      by (suc n) is = omega arith

  -- ---- the entries that have a value

  abbrev pub has_value : Vertex × (ℕ × Option V) → Bool
  has_value e = is_some e.1.1

  absent : (v : Vertex) (es : List (Vertex × (ℕ × Option V))) → AllByRecursion (λ k. vertices_equal v k ≡ false) (keys_of es) → lookup (vertices_equal v) es ≡ None
  absent v [] none = refl
  absent v (e ∷ es) none = ap (λ b. cond b (Some e.1) (lookup (vertices_equal v) es)) none.0 ∙ absent v es none.1

  -- the others can be given up
  pub values_kept : (es : List (Vertex × (ℕ × Option V))) → IsDistinct vertices_equal (keys_of es) → values_of (filter has_value es) ≡ values_of es
  values_kept [] unique = refl
  values_kept (e ∷ es) unique = by e.1.1 refl (values_kept es (IsDistinct-tail vertices_equal e.0 (keys_of es) unique))
    where
      by : (o : Option V) → e.1.1 ≡ o → values_of (filter has_value es) ≡ values_of es → values_of (cond (is_some e.1.1) (e ∷ filter has_value es) (filter has_value es)) ≡ values_of (e ∷ es)
      by (Some x) is rest = ap (λ b. values_of (cond b (e ∷ filter has_value es) (filter has_value es))) (ap is_some is) ∙ ap (λ m. with_value m e.0 e.1.1) rest
      by None is rest =
          ap (λ b. values_of (cond b (e ∷ filter has_value es) (filter has_value es))) (ap is_some is) ∙ rest
          ∙ none_taken (values_of es) e.0 (not_found es e.0 (absent e.0 es (IsDistinct-head vertices_equal e.0 (keys_of es) unique)))
          ∙ ap (λ o. with_value (values_of es) e.0 o) (sym is)
