-- The vertices of a graph: which links lead to, how many are routers, and so how far its vertices
-- are from the root.
use Rattle.std.proofs.Common.{◌≡◌, ℕ, ◌<◌, ◌≤◌, List, [], ◌∷◌, ◌++◌, length, map, Option, Some, None, refl, sym, ap, subst, ◌∙◌, ◌⊎◌, inl, inr, arith}
use Rattle.std.specs.Prelude.{IsSome, is_some}
use Rattle.std.specs.List.{Contains}
use Rattle.std.specs.FinMap.{get, keys, len}
use Rattle.std.proofs.lemmas.Bool.{cases_eq}
use Rattle.std.proofs.lemmas.List.Elements.{Contains-append_left, Contains-push, Contains-push_cases}
use Rattle.ospf_types.specs.declared.entry.Vertex.{Vertex}
use Rattle.ospf_types.specs.declared.entry.Vertex.TheVariants.{Router, Network}
use Rattle.ospf_types.specs.declared.label.Label.{Label}
use Rattle.ospf_types.specs.Distances.{IsDistance}
use Rattle.ospf_types.specs.Lsa.{RouterLink}
use Rattle.ospf_types.proofs.Elements.{no_element, first_or_later}
use Rattle.vertex_graph.specs.LinkEnd.{LinkEnd}
use Rattle.vertex_graph.specs.Graphs.{GraphValue, graph_view, link_of, LinksOf, HasRoot, HasFewRouters}
use Rattle.vertex_queue.specs.VertexSet.{HasNoDoubles}
use Rattle.vertex_queue.specs.Maps.{most_distance}
use Rattle.vertex_queue.proofs.Counting.{no_doubles_nil, no_doubles_push}
use Rattle.vertex_queue.proofs.Elements.{cases_element}
use Rattle.vertex_queue.proofs.VertexMaps.{key_there, len_most}
use Rattle.spf.specs.Trees.{AreCosts, AreReal}
use Rattle.spf.proofs.AreaLinks.{area_links}
use Rattle.spf.proofs.Paths.{ends_in}
use Rattle.spf.proofs.Reach.{distance_fits}

-- the vertex has ends in the graph
abbrev pub IsThere : GraphValue → Vertex → Type 0
IsThere g v = (ends : List LinkEnd) × (get g.ends v ≡ Some ends)

-- ---- the routers among vertices

-- Of some vertices the routers for which a fact holds, without duplicates.
record AreRouters (P : ℕ → Type 0) (vertices : List Vertex) (routers : List ℕ) : Type 0 where
  pub apart : HasNoDoubles routers
  pub hold : (r : ℕ) → Contains routers r → P r
  pub all : (r : ℕ) → P r → Contains vertices (Router r) → Contains routers r

module _ {P : ℕ → Type 0} (decided : (r : ℕ) → P r ⊎ (P r → ⊥)) where
  -- one vertex more that is no such router, or is among them
  passed : (v : Vertex) (vertices : List Vertex) (routers : List ℕ) → ((r : ℕ) → P r → v ≡ Router r → Contains routers r) → AreRouters P vertices routers → AreRouters P (v ∷ vertices) routers
  passed v vertices routers known a = record {
    apart = a.apart;
    hold = a.hold;
    all = λ r holds c. elim (first_or_later v (Router r) vertices c) [ inl same ↦ known r holds (sym same) | inr later ↦ a.all r holds later ];
  }

  -- and one that is such a router, and new
  pushed : (n : ℕ) (vertices : List Vertex) (routers : List ℕ) → P n → (Contains routers n → ⊥) → AreRouters P vertices routers → AreRouters P (Router n ∷ vertices) (routers ++ n ∷ [])
  pushed n vertices routers holds new a = record {
    apart = no_doubles_push routers n a.apart new;
    hold = λ r c. elim (Contains-push_cases routers n r c) [ inl was ↦ a.hold r was | inr same ↦ subst P same holds ];
    all = λ r r_holds c. elim (first_or_later (Router n) (Router r) vertices c) [
      | inl same ↦ let number : n ≡ r = cc in subst (λ q. Contains (routers ++ n ∷ []) q) number (Contains-push routers n)
      | inr later ↦ Contains-append_left routers (n ∷ []) r (a.all r r_holds later)
    ];
  }

  routers_of : (vertices : List Vertex) → (routers : List ℕ) × AreRouters P vertices routers
  routers_of [] = ([], record { apart = no_doubles_nil; hold = λ r none. absurd (no_element r none); all = λ r holds none. absurd (no_element (Router r) none) })
  routers_of (Network n ∷ vertices) = let rest = routers_of vertices in (rest.0, passed (Network n) vertices rest.0 (λ r holds same. absurd cc) rest.1)
  routers_of (Router n ∷ vertices) =
      let rest = routers_of vertices in
      elim (decided n) [
        | inr none ↦ (rest.0, passed (Router n) vertices rest.0 (λ r holds same. let number : n ≡ r = cc in absurd (none (subst P (sym number) holds))) rest.1)
        | inl holds ↦ elim (cases_element cases_eq rest.0 n) [
          | inl known ↦ (rest.0, passed (Router n) vertices rest.0 (λ r r_holds same. let number : n ≡ r = cc in subst (λ q. Contains rest.0 q) number known) rest.1)
          | inr new ↦ (rest.0 ++ n ∷ [], pushed n vertices rest.0 holds new rest.1)
        ]
      ]

module _ (g : GraphValue) where
  -- a vertex is there or not
  there_or_not : (v : Vertex) → IsSome (get g.ends v) ⊎ (IsSome (get g.ends v) → ⊥)
  there_or_not v = elim (get g.ends v) as (λ o. IsSome o ⊎ (IsSome o → ⊥)) [ Some ends ↦ inl refl | None ↦ inr (λ is. cc) ]

  -- the root is a vertex or not
  pub root_or_not : HasRoot g ⊎ (HasRoot g → ⊥)
  root_or_not =
      elim (get g.ends (Router g.root)) as (λ o. get g.ends (Router g.root) ≡ o → HasRoot g ⊎ (HasRoot g → ⊥)) [
        | Some ends ↦ λ is. inl (0, mapped ends, (ends, is, refl, refl))
        | None ↦ λ none. inr (λ has. let both : Some has.2.0 ≡ None = sym has.2.1 ∙ none in cc)
      ] refl
    where
      mapped : List LinkEnd → List RouterLink
      mapped ends = map link_of ends

  -- what a link leads to is there
  pub head_there : (from to : Vertex) (cost : ℕ) (label : Label) → LinksOf g from to cost label → IsThere g to
  head_there (Router a) (Router b) cost label taken = let named = taken.10 in (named.3.0, named.3.1)
  head_there (Router a) (Network b) cost label taken = let listed = taken.10 in (listed.2.0, listed.2.1)
  head_there (Network a) (Router b) cost label taken = (taken.5.0, taken.5.1)
  head_there (Network a) (Network b) cost label taken = absurd taken

  -- so is each vertex that a path reaches, but the root
  pub reached_there : {value : Vertex → Option ℕ} → AreReal (LinksOf g) g.root (HasRoot g) value → (v : Vertex) (d : ℕ) → value v ≡ Some d → (v ≡ Router g.root → ⊥) → IsThere g v
  reached_there real v d at other =
      let path = real.real v d at in
      let e = ends_in (LinksOf g) g.root v path.way path.path.1 other in
      head_there e.tail v e.cost e.label e.taken

  -- different vertices that are there are no more than the graph has
  pub no_more : (vs : List Vertex) → HasNoDoubles vs → ((v : Vertex) → Contains vs v → IsThere g v) → length vs ≤ len g.ends
  no_more vs apart there = len_most g.ends vs apart there

  module _ (few : HasFewRouters g) (cheap : (from to : Vertex) (cost : ℕ) (label : Label) → LinksOf g from to cost label → cost < 65536) where
    -- distances fit
    pub fits : (v : Vertex) (d : ℕ) → IsDistance (LinksOf g) g.root (HasRoot g) v d → d < most_distance
    fits v d at =
        let routers = routers_of {P = λ r. IsSome (get g.ends (Router r))} (λ r. there_or_not (Router r)) (keys g.ends) in
        let costs : AreCosts (LinksOf g) 65535 routers.0 = record {
          bounded = λ router to cost label taken. omega (arith, cheap (Router router) to cost label taken);
          listed = λ router to cost label taken. listed routers.0 routers.1 router to cost label taken;
        } in
        distance_fits (area_links (graph_view g)) costs (omega arith) (few routers.0 routers.1.apart routers.1.hold) v d at
      where
        listed : (routers : List ℕ) → AreRouters (λ r. IsSome (get g.ends (Router r))) (keys g.ends) routers → (router : ℕ) (to : Vertex) (cost : ℕ) (label : Label) → LinksOf g (Router router) to cost label → Contains routers router
        listed routers a router (Router t) cost label taken = a.all router (ap is_some taken.3.1) (key_there g.ends (Router router) taken.3.0 taken.3.1)
        listed routers a router (Network t) cost label taken = a.all router (ap is_some taken.3.1) (key_there g.ends (Router router) taken.3.0 taken.3.1)
