-- The vertices that are reached, without duplicates.
use Rattle.std.proofs.Common.{◌≡◌, ◌≢◌, ℕ, List, [], ◌∷◌, Option, None, Some, sym, ap, subst, ◌∙◌, arith}
use Rattle.std.specs.Prelude.{◌↔◌, option_map}
use Rattle.std.specs.FinMap.{get}
use Rattle.std.specs.List.{All, AllPairs, Contains, filter_map, cons_option}
use Rattle.std.specs.List.Sorted.{IsPermutation, IsStrictlySortedBy}
use Rattle.std.proofs.lemmas.List.Elements.{All-weaker, All-contains_itself}
use Rattle.std.proofs.lemmas.List.Kept.{AllPairs-cons}
use Rattle.std.proofs.lemmas.List.Sorted.{Contains-permutation, IsPermutation-sym}
use Rattle.ospf_types.specs.declared.entry.Vertex.{Vertex}
use Rattle.ospf_types.specs.declared.key.Key.{Key}
use Rattle.ospf_types.specs.Vertices.{vertex_cmp}
use Rattle.ospf_types.proofs.VertexOrder.{vertex_total}
use Rattle.lsdb.specs.Databases.{DatabaseValue}
use Rattle.lsdb.specs.Contents.{IsOrder}
use Rattle.graph_links.proofs.Apart.{Apart, apart_first, apart_rest, apart_strict}
use Rattle.vertex_graph.proofs.Gathered.{given_from, given}
use Rattle.area_trees.specs.Areas.{AreaTreeValue, AreVerticesOf}
use Rattle.area_drawings.specs.declared.reached.ReachedVertex.{ReachedVertex}
use Rattle.area_drawings.specs.Reaching.{AreReached, reached_by}
use Rattle.area_drawings.proofs.Once.{once_moved}

at_distance : Vertex → ℕ → ReachedVertex
at_distance v distance = record { vertex = v; distance = distance }

module _ (t : AreaTreeValue) where
  -- a reached vertex has its distance
  by_distance : (v : Vertex) (distance : Option ℕ) (r : ReachedVertex) → option_map (λ d. let reached : ReachedVertex = record { vertex = v; distance = d } in reached) distance ≡ Some r → (r.vertex ≡ v) × (distance ≡ Some r.distance)
  by_distance v None r is = absurd cc
  by_distance v (Some d) r is = (ap (λ (o : Option ReachedVertex). vertex_in o) (sym is), ap (λ (o : Option ReachedVertex). option_map (λ s. s.distance) o) is)
    where
      vertex_in : Option ReachedVertex → Vertex
      vertex_in None = v
      vertex_in (Some s) = s.vertex

  named_by : (v : Vertex) (r : ReachedVertex) → reached_by t v ≡ Some r → (r.vertex ≡ v) × (get t.tree.distances v ≡ Some r.distance)
  named_by v r is = by_distance v (get t.tree.distances v) r is

  -- those of the vertices that are reached
  reached_among : (vs : List Vertex) (r : ReachedVertex) → Contains (filter_map (reached_by t) vs) r ↔ (Contains vs r.vertex × (get t.tree.distances r.vertex ≡ Some r.distance))
  reached_among vs r = (
    λ c. let from = given_from (reached_by t) vs r c in
        let named = named_by from.0 r from.2 in
        (subst (Contains vs) (sym named.0) from.1, ap (get t.tree.distances) named.0 ∙ named.1),
    λ h. given (reached_by t) vs r.vertex r h.0 (ap (option_map (λ d. let reached : ReachedVertex = record { vertex = r.vertex; distance = d } in reached)) h.1),
  )

  each_apart : (vs : List Vertex) → Apart vs → AllPairs (λ p q. p.vertex ≢ q.vertex) (filter_map (reached_by t) vs)
  each_apart [] apart = λ i j d lt within. absurd (omega arith)
  each_apart (v ∷ vs) apart =
      let rest = each_apart vs (apart_rest v vs apart) in
      let others : All (λ q. v ≢ q.vertex) (filter_map (reached_by t) vs) = All-weaker (Contains (filter_map (reached_by t) vs)) (λ q. v ≢ q.vertex) (λ q c. apart_first v q.vertex vs apart ((reached_among vs q).0 c).0) (filter_map (reached_by t) vs) (All-contains_itself (filter_map (reached_by t) vs)) in
      elim (get t.tree.distances v) as (λ o. AllPairs (λ p q. p.vertex ≢ q.vertex) (cons_option (option_map (λ d. let reached : ReachedVertex = record { vertex = v; distance = d } in reached) o) (filter_map (reached_by t) vs))) [
        | None ↦ rest
        | Some d ↦ AllPairs-cons (λ p q. p.vertex ≢ q.vertex) (record { vertex = v; distance = d }) (filter_map (reached_by t) vs) others rest
      ]

  -- for a database's keys, in any order
  pub are_reached : (d : DatabaseValue) (keys : List Key) (vs : List Vertex) (reached moved : List ReachedVertex) → IsOrder d → keys ≡ d.order → IsStrictlySortedBy vertex_cmp vs → AreVerticesOf keys vs
      → reached ≡ filter_map (reached_by t) vs → IsPermutation reached moved → AreReached d.lsas t moved
  are_reached d keys vs reached moved ordered keys_are sorted vertices is same = record {
    exact = λ r. (
      λ c. let h = (reached_among vs r).0 (subst (λ (rs : List ReachedVertex). Contains rs r) is (Contains-permutation moved reached r (IsPermutation-sym reached moved same) c)) in
          let key = (vertices r.vertex).0 h.0 in
          ((key.0, (ordered.there key.0).0 (subst (λ (ks : List Key). Contains ks key.0) keys_are key.1), key.2), h.1),
      λ h. let key = h.0 in
          Contains-permutation reached moved r same
          (subst (λ (rs : List ReachedVertex). Contains rs r) (sym is) ((reached_among vs r).1 ((vertices r.vertex).1 (key.0, subst (λ (ks : List Key). Contains ks key.0) (sym keys_are) ((ordered.there key.0).1 key.1), key.2), h.1))),
    );
    once = once_moved (λ r. r.vertex) reached moved same (subst (λ (rs : List ReachedVertex). AllPairs (λ p q. p.vertex ≢ q.vertex) rs) (sym is) (each_apart vs (apart_strict vertex_total vs sorted)));
  }
