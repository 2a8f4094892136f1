-- The equality of vertices that `==` tests and the one by their order, and what a map's entries
-- have at a vertex.
use Rattle.std.proofs.Common.{◌≡◌, ◌≢◌, ◌⊎◌, inl, inr, ℕ, ◌≤◌, Bool, true, false, cond, List, [], ◌∷◌, length, map, Option, Some, None, arith, refl, sym, ap, subst, ◌∙◌}
use Rattle.std.specs.Prelude.{Contains, option_map}
use Rattle.std.specs.List.{slice_get}
use Rattle.std.proofs.lemmas.Option.{same_Some}
use Rattle.std.specs.Ordering.{eq_by_cmp}
use Rattle.std.specs.Cmp.{IsEquivalence, eq_by_cmp_equiv, unsigned_ties}
use Rattle.std.specs.FinMap.{find}
use Rattle.std.specs.Map.{lookup}
use Rattle.indexmap.specs.IndexSet.{insert_key}
use Rattle.indexmap.proofs.CallerLemmas.{Contains-insert_key}
use Rattle.std.proofs.lemmas.Map.Views.{tells_apart}
use Rattle.ospf_types.specs.declared.entry.Vertex.{Vertex}
use Rattle.ospf_types.specs.declared.entry.Vertex.TheVariants.{Router, Network}
use Rattle.ospf_types.specs.contracts.entry.VertexPartialEq.TheImpl as derived_equality
use Rattle.ospf_types.specs.Vertices.{vertex_cmp}
use Rattle.graph_links.proofs.EndOrders.{vertex_total, vertex_exact}

abbrev pub is_vertex : Vertex → Vertex → Bool
is_vertex = eq_by_cmp vertex_cmp

abbrev pub equals : Vertex → Vertex → Bool
equals = (derived_equality.eq-value).it

pub equals_is : (v w : Vertex) → equals v w ≡ is_vertex v w
equals_is (Router r) (Router s) = unsigned_ties r s
equals_is (Router r) (Network n) = refl
equals_is (Network n) (Router r) = refl
equals_is (Network n) (Network m) = unsigned_ties n m

pub equals_vertex : (v : Vertex) → equals v ≡ is_vertex v
equals_vertex v i w = equals_is v w i

pub equals_all : equals ≡ is_vertex
equals_all i v = equals_vertex v i

pub vertex_laws : IsEquivalence is_vertex
vertex_laws = eq_by_cmp_equiv vertex_total

pub vertex_same : (v w : Vertex) → is_vertex v w ≡ true → v ≡ w
vertex_same = tells_apart vertex_exact

pub vertex_other : (v w : Vertex) → is_vertex v w ≡ false → v ≢ w
vertex_other v w apart same = let e : true ≡ false = sym (vertex_laws.refl v) ∙ ap (is_vertex v) same ∙ apart in absurd cc

pub one_or_other : (v w : Vertex) → (v ≡ w) ⊎ (v ≢ w)
one_or_other v w = elim (is_vertex v w) as (λ b. is_vertex v w ≡ b → (v ≡ w) ⊎ (v ≢ w)) [ true ↦ λ is. inl (vertex_same v w is) | false ↦ λ is. inr (vertex_other v w is) ] refl

pub apart_by : (v w : Vertex) → v ≢ w → is_vertex v w ≡ false
apart_by v w apart = elim (is_vertex v w) as (λ b. is_vertex v w ≡ b → b ≡ false) [ true ↦ λ is. absurd (apart (vertex_same v w is)) | false ↦ λ is. refl ] refl

-- a vertex that is inserted is there
pub inserted_own : (old new : List Vertex) (v : Vertex) → new ≡ insert_key equals old v → Contains new v
inserted_own old new v is = subst (λ (vs : List Vertex). Contains vs v) (sym is) (Contains-insert_key equals (λ a b same. vertex_same a b (sym (equals_is a b) ∙ same)) old v)

module _ {X : Type 0} where
  -- what `get` finds at a vertex
  pub found : (v : Vertex) (es : List (Vertex × X)) → lookup (equals v) es ≡ find vertex_cmp v es
  found v [] = refl
  found v (e ∷ es) = λ i. cond (equals_is v e.0 i) (Some e.1) (found v es i)

  -- what the entry of a vertex has that goes by another name
  pub found_at : (es : List (Vertex × X)) (k v : Vertex) (x : X) → k ≡ v → Some x ≡ lookup (equals k) es → Some x ≡ find vertex_cmp v es
  found_at es k v x same is = subst (λ (w : Vertex). Some x ≡ find vertex_cmp w es) same (is ∙ found k es)

  -- what the one entry says that is there at most
  pub found_only : (es : List (Vertex × X)) (v k : Vertex) (x : X) (n : ℕ) (t : Bool) → n ≤ 1 → n ≡ length es → Some (k, x) ≡ slice_get es 0 → t ≡ equals k v → cond t (Some x) None ≡ find vertex_cmp v es
  found_only [] v k x n t few len first is = let none : Option (Vertex × X) = None in let same : Some (k, x) ≡ none = first in absurd cc
  found_only (e ∷ []) v k x n t few len first is =
      let some : Some (k, x) ≡ Some e = first in
      let same : (k, x) ≡ e = same_Some (k, x) e some in
      let key : t ≡ is_vertex v e.0 = is ∙ equals_is k v ∙ vertex_laws.symm k v ∙ ap (λ (p : Vertex × X). is_vertex v p.0) same in
      λ i. cond (key i) (Some (same i).1) None
  found_only (e ∷ f ∷ es) v k x n t few len first is = absurd (omega (arith, few, len))

  -- what the entries have after one vertex has another value, or none
  pub found_after : (es fs : List (Vertex × X)) (k : Vertex) (w : Option X) → ((v : Vertex) → lookup (equals v) fs ≡ cond (equals k v) w (lookup (equals v) es)) → (v : Vertex) → find vertex_cmp v fs ≡ cond (is_vertex v k) w (find vertex_cmp v es)
  found_after es fs k w updates v =
      sym (found v fs) ∙ updates v ∙ (λ i. cond ((equals_is k v ∙ vertex_laws.symm k v) i) w (found v es i))

  pub found_own : (es fs : List (Vertex × X)) (k : Vertex) (w : Option X) → ((v : Vertex) → find vertex_cmp v fs ≡ cond (is_vertex v k) w (find vertex_cmp v es)) → find vertex_cmp k fs ≡ w
  found_own es fs k w updates = updates k ∙ ap (λ b. cond b w (find vertex_cmp k es)) (vertex_laws.refl k)

  pub found_other : (es fs : List (Vertex × X)) (k : Vertex) (w : Option X) → ((v : Vertex) → find vertex_cmp v fs ≡ cond (is_vertex v k) w (find vertex_cmp v es)) → (v : Vertex) → v ≢ k → find vertex_cmp v fs ≡ find vertex_cmp v es
  found_other es fs k w updates v apart = updates v ∙ ap (λ b. cond b w (find vertex_cmp v es)) (apart_by v k apart)

  pub found_mapped : {Y : Type 0} (f : X → Y) (es : List (Vertex × X)) (v : Vertex) → find vertex_cmp v (map (λ (e : Vertex × X). (e.0, f e.1)) es) ≡ option_map f (find vertex_cmp v es)
  found_mapped f [] v = refl
  found_mapped f (e ∷ es) v =
      ap (cond (is_vertex v e.0) (Some (f e.1))) (found_mapped f es v)
      ∙ elim (is_vertex v e.0) as (λ b. cond b (Some (f e.1)) (option_map f (find vertex_cmp v es)) ≡ option_map f (cond b (Some e.1) (find vertex_cmp v es))) [ true ↦ refl | false ↦ refl ]
