-- The entries of a map from vertices, and the finite map that they make.
use Rattle.std.proofs.Common.{◌≡◌, ◌≢◌, suc, ◌+◌, ◌-◌, ◌≤◌, get_or, Bool, true, false, cond, List, [], ◌∷◌, length, Option, Some, None, refl, sym, ap, subst, ◌∙◌, arith}
use Rattle.std.specs.Prelude.{is_some, position, swap_remove, slice_set, IfSome, if◌then◌else◌}
use Rattle.std.specs.Option.{option_map_or}
use Rattle.std.specs.Ordering.{eq_by_cmp}
use Rattle.std.specs.Cmp.{eq_by_cmp_equiv}
use Rattle.std.specs.List.{All, Contains, AllByRecursion, IsDistinct}
use Rattle.std.specs.Map.{keys_of, lookup}
use Rattle.std.specs.FinMap.{FinMap, find, get, keys, entries, len-entries, contains_key-keys, insert, remove, len, contains_key, from_entries, empty, get-empty, get-from_entries, get-insert, get-remove, len-insert, len-empty, same_map}
use Rattle.std.proofs.lemmas.Map.Keys.{IsDistinct-head, IsDistinct-tail}
use Rattle.std.proofs.lemmas.Map.Views.{tells_apart, Contains-from_any}
use Rattle.std.proofs.lemmas.Map.Entries.{length-keys_of}
use Rattle.std.proofs.lemmas.List.Elements.{All-cons, All-set, All-take}
use Rattle.indexmap.specs.IndexMap.{insert_entry, swap_remove_entry}
use Rattle.ospf_types.specs.declared.entry.Vertex.{Vertex}
use Rattle.ospf_types.specs.Vertices.{vertex_cmp}
use Rattle.ospf_types.proofs.Maps.{find-lookup}
use Rattle.ospf_types.proofs.VertexOrder.{vertex_total, vertex_exact, vertices_equal, vertices_order}
use Rattle.vertex_queue.specs.VertexSet.{HasNoDoubles}
use Rattle.vertex_queue.proofs.Counting.{no_longer}

-- a vertex ties with no other
pub apart_by_order : (v w : Vertex) → w ≢ v → eq_by_cmp vertex_cmp w v ≡ false
apart_by_order v w other = elim (eq_by_cmp vertex_cmp w v) as (λ b. eq_by_cmp vertex_cmp w v ≡ b → b ≡ false) [ true ↦ λ tied. absurd (other (tells_apart vertex_exact w v tied)) | false ↦ λ tied. refl ] refl

module _ {X : Type 0} where
  abbrev pub map_of : List (Vertex × X) → FinMap vertex_cmp X
  map_of es = from_entries {R = vertex_cmp} es

  -- what `==` finds is what the order finds
  pub found_by_equals : (q : Vertex) (es : List (Vertex × X)) → lookup (vertices_equal q) es ≡ find vertex_cmp q es
  found_by_equals q es = ap (λ (eq : Vertex → Vertex → Bool). lookup (eq q) es) vertices_order ∙ sym (find-lookup vertex_cmp q es)

  pub get_is : (es : List (Vertex × X)) (q : Vertex) → get (map_of es) q ≡ find vertex_cmp q es
  get_is es q = get-from_entries vertex_total es q

  -- what a lookup by `==` gives
  pub looked_up : (es : List (Vertex × X)) (q : Vertex) → lookup (vertices_equal q) es ≡ get (map_of es) q
  looked_up es q = found_by_equals q es ∙ sym (get_is es q)

  -- what an update at one vertex leaves at each
  found_after : (es fs : List (Vertex × X)) (v : Vertex) (new : Option X) → ((q : Vertex) → lookup (vertices_equal q) fs ≡ cond (vertices_equal v q) new (lookup (vertices_equal q) es))
      → (q : Vertex) → get (map_of fs) q ≡ cond (eq_by_cmp vertex_cmp q v) new (get (map_of es) q)
  found_after es fs v new updates q =
      sym (looked_up fs q) ∙ updates q ∙ (λ i. cond (vertices_order i v q) new (looked_up es q i))
      ∙ ap (λ b. cond b new (get (map_of es) q)) ((eq_by_cmp_equiv vertex_total).symm v q)

  pub inserted : (es fs : List (Vertex × X)) (v : Vertex) (x : X) → ((q : Vertex) → lookup (vertices_equal q) fs ≡ cond (vertices_equal v q) (Some x) (lookup (vertices_equal q) es)) → map_of fs ≡ insert (map_of es) v x
  inserted es fs v x updates = same_map vertex_total vertex_exact (map_of fs) (insert (map_of es) v x) (λ q.
      found_after es fs v (Some x) updates q ∙ sym (get-insert vertex_total (map_of es) v x q))

  pub removed : (es fs : List (Vertex × X)) (v : Vertex) → ((q : Vertex) → lookup (vertices_equal q) fs ≡ cond (vertices_equal v q) None (lookup (vertices_equal q) es)) → map_of fs ≡ remove (map_of es) v
  removed es fs v updates = same_map vertex_total vertex_exact (map_of fs) (remove (map_of es) v) (λ q.
      found_after es fs v None updates q ∙ sym (get-remove vertex_total (map_of es) v q))

  -- a vertex that is none of these is not found
  find_none : (q : Vertex) (es : List (Vertex × X)) → AllByRecursion (λ k. eq_by_cmp vertex_cmp q k ≡ false) (keys_of es) → find vertex_cmp q es ≡ None
  find_none q [] none = refl
  find_none q (e ∷ es) none = ap (λ b. cond b (Some e.1) (find vertex_cmp q es)) none.0 ∙ find_none q es none.1

  -- there are this many vertices as entries, where none occurs twice
  len_distinct : (es : List (Vertex × X)) → IsDistinct (eq_by_cmp vertex_cmp) (keys_of es) → len (map_of es) ≡ length es
  len_distinct [] unique = len-empty vertex_cmp X
  len_distinct (e ∷ es) unique =
      let absent : contains_key (map_of es) e.0 ≡ false = ap is_some (get_is es e.0 ∙ find_none e.0 es (IsDistinct-head (eq_by_cmp vertex_cmp) e.0 (keys_of es) unique)) in
      let rest = len_distinct es (IsDistinct-tail (eq_by_cmp vertex_cmp) e.0 (keys_of es) unique) in
      len-insert vertex_total (map_of es) e.0 e.1 ∙ ap (λ b. cond b (len (map_of es)) (len (map_of es) + 1)) absent ∙ ap (λ n. n + 1) rest ∙ omega arith

  pub len_is : (es : List (Vertex × X)) → IsDistinct vertices_equal (keys_of es) → len (map_of es) ≡ length es
  len_is es unique = len_distinct es (subst (λ (eq : Vertex → Vertex → Bool). IsDistinct eq (keys_of es)) vertices_order unique)

  -- among the keys is each vertex that has a value
  pub key_there : (m : FinMap vertex_cmp X) (v : Vertex) (x : X) → get m v ≡ Some x → Contains (keys m) v
  key_there m v x is = Contains-from_any (tells_apart vertex_exact) v (keys m) (sym (contains_key-keys m v) ∙ ap is_some is)

  -- different vertices that have values are no more than the map has
  pub len_most : (m : FinMap vertex_cmp X) (vs : List Vertex) → HasNoDoubles vs → ((v : Vertex) → Contains vs v → (x : X) × (get m v ≡ Some x)) → length vs ≤ len m
  len_most m vs apart there =
      let most : length vs ≤ length (keys m) = no_longer vs (keys m) apart (λ v c. let at = there v c in key_there m v at.0 at.1) in
      omega (arith, most, length-keys_of (entries m), len-entries m)

  -- a value that is set
  pub set_here : (m : FinMap vertex_cmp X) (v : Vertex) (x : X) → get (insert m v x) v ≡ Some x
  set_here m v x = get-insert vertex_total m v x v ∙ ap (λ b. cond b (Some x) (get m v)) ((eq_by_cmp_equiv vertex_total).refl v)

  pub set_elsewhere : (m : FinMap vertex_cmp X) (v w : Vertex) (x : X) → w ≢ v → get (insert m v x) w ≡ get m w
  set_elsewhere m v w x other = get-insert vertex_total m v x w ∙ ap (λ b. cond b (Some x) (get m w)) (apart_by_order v w other)

  -- one that is taken out
  pub gone_here : (m : FinMap vertex_cmp X) (v : Vertex) → get (remove m v) v ≡ None
  gone_here m v = get-remove vertex_total m v v ∙ ap (λ b. cond b None (get m v)) ((eq_by_cmp_equiv vertex_total).refl v)

  pub gone_elsewhere : (m : FinMap vertex_cmp X) (v w : Vertex) → w ≢ v → get (remove m v) w ≡ get m w
  gone_elsewhere m v w other = get-remove vertex_total m v w ∙ ap (λ b. cond b None (get m w)) (apart_by_order v w other)

-- ---- what holds of each value of a map

module _ {X : Type 0} (P : X → Type 0) where
  abbrev pub AreAll : FinMap vertex_cmp X → Type 0
  AreAll m = (v : Vertex) → IfSome (get m v) P

  pub all_none : AreAll empty
  all_none v = subst (λ (o : Option X). IfSome o P) (sym (get-empty vertex_cmp v)) tt

  pub all_inserted : (m : FinMap vertex_cmp X) (v : Vertex) (x : X) → AreAll m → P x → AreAll (insert m v x)
  all_inserted m v x all here w =
      subst (λ (o : Option X). IfSome o P) (sym (get-insert vertex_total m v x w))
      (elim (eq_by_cmp vertex_cmp w v) as (λ b. IfSome (cond b (Some x) (get m w)) P) [ true ↦ here | false ↦ all w ])

  pub all_removed : (m : FinMap vertex_cmp X) (v : Vertex) → AreAll m → AreAll (remove m v)
  all_removed m v all w =
      subst (λ (o : Option X). IfSome o P) (sym (get-remove vertex_total m v w))
      (elim (eq_by_cmp vertex_cmp w v) as (λ b. IfSome (cond b None (get m w)) P) [ true ↦ tt | false ↦ all w ])

-- ---- what holds of each value, by keys of any type

module _ {K X : Type 0} (P : X → Type 0) where
  abbrev pub AllValues : List (K × X) → Type 0
  AllValues es = All (λ (e : K × X). P e.1) es

  pub all_values_inserted : (eq : K → K → Bool) (es : List (K × X)) (v : K) (x : X) → AllValues es → P x → AllValues (insert_entry eq es v x)
  all_values_inserted eq [] v x all here = All-cons (λ (e : K × X). P e.1) (v, x) [] here all
  all_values_inserted eq (e ∷ es) v x all here =
      let rest : AllValues es = λ k d within. all (suc k) d (omega (arith, within)) in
      let first : P e.1 = all 0 e (omega arith) in
      elim (eq v e.0) as (λ b. AllValues (if b then (e.0, x) ∷ es else e ∷ insert_entry eq es v x)) [
        | true ↦ All-cons (λ (e : K × X). P e.1) (e.0, x) es here rest
        | false ↦ All-cons (λ (e : K × X). P e.1) e (insert_entry eq es v x) first (all_values_inserted eq es v x rest here)
      ]

  pub all_values_removed : (test : K → Bool) (es : List (K × X)) → AllValues es → AllValues (swap_remove_entry test es)
  all_values_removed test [] all = all
  all_values_removed test (e ∷ es) all =
      elim (position test (keys_of (e ∷ es))) as (λ o. AllValues (option_map_or (λ i. swap_remove (e ∷ es) i e) o (e ∷ es))) [
        | None ↦ all
        | Some i ↦ All-take (λ (e : K × X). P e.1) (length (e ∷ es) - 1) (slice_set (e ∷ es) i (get_or (e ∷ es) (length (e ∷ es) - 1) e))
            (All-set (λ (e : K × X). P e.1) (e ∷ es) i (get_or (e ∷ es) (length (e ∷ es) - 1) e) (all (length (e ∷ es) - 1) e (omega arith)) all)
      ]

  pub some_looked_up : (test : K → Bool) (es : List (K × X)) → AllValues es → IfSome (lookup test es) P
  some_looked_up test [] all = tt
  some_looked_up test (e ∷ es) all =
      let rest : AllValues es = λ k d within. all (suc k) d (omega (arith, within)) in
      elim (test e.0) as (λ b. IfSome (cond b (Some e.1) (lookup test es)) P) [ true ↦ all 0 e (omega arith) | false ↦ some_looked_up test es rest ]
