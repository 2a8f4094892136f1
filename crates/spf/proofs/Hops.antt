-- The next hops of a vertex are what its least links give it, and no other sets are.
use Rattle.std.proofs.Common.{◌≡◌, ◌≢◌, ℕ, ◌+◌, List, [], ◌∷◌, ◌++◌, Option, Some, None, refl, sym, ap, subst, ◌∙◌, ◌⊎◌, inl, inr, arith}
use Rattle.std.specs.Prelude.{◌↔◌}
use Rattle.ospf_types.specs.declared.entry.Vertex.{Vertex}
use Rattle.ospf_types.specs.declared.entry.Vertex.TheVariants.{Router}
use Rattle.ospf_types.specs.declared.hop.NextHop.{NextHop}
use Rattle.ospf_types.specs.declared.label.Label.{Label}
use Rattle.ospf_types.specs.Distances.{Links, TakenLink, Leads, IsPath, cost_of, IsDistance, FirstOnly, IsFirst, IsHop}
use Rattle.vertex_queue.proofs.Elements.{cases_vertex}
use Rattle.spf.specs.Trees.{step_to, AreLinks, HaveAddresses, AreDistances, IsShortestLink, HandsOn, GivesHop, IsGiven, AreUnions}
use Rattle.spf.proofs.Paths.{cost_of-push, one_more, last_step, ends_in, empty_to_root, beginning, same_distance}
use Rattle.spf.proofs.Values.{root_zero, last_least}
use Rattle.spf.proofs.Ranks.{along_least}
use Rattle.spf.proofs.Firsts.{first_before, first_after, has_first}

module _ (link : Links) (root : ℕ) (has_root : Type 0) where
  -- what the last link of a least path gives
  given_by_path : (tail to : Vertex) (before : List TakenLink) (cost : ℕ) (label : Label) (h : NextHop) → has_root → Leads link root (Router root) before tail → IsDistance link root has_root tail (cost_of before)
      → IsFirst (before ++ step_to to cost label ∷ []) h → GivesHop root (IsHop link root has_root) tail to label h
  given_by_path tail to [] cost label h has leads at first = inl (sym leads, first)
  given_by_path tail to (step ∷ before) cost label h has leads at first =
      let g = first_before step (step_to to cost label) before h first in
      inr ((last_step link root (Router root) tail step before leads).other, g.0, record { path = (step ∷ before, (has, leads), at, g.1) }, g.2)

  -- a least path that goes on over a least link
  hop_of_longer : (from to : Vertex) (way : List TakenLink) (cost : ℕ) (label : Label) (g h : NextHop) → has_root → Leads link root (Router root) way from → IsFirst way g
      → link from to cost label → to ≢ Router root → HandsOn g label h → IsDistance link root has_root to (cost_of way + cost) → IsHop link root has_root to h
  hop_of_longer from to [] cost label g h has leads first taken other hands at = absurd first
  hop_of_longer from to (step ∷ way) cost label g h has leads first taken other hands at =
      let last : TakenLink = step_to to cost label in
      record {
        path = (
          (step ∷ way) ++ last ∷ [],
          (has, one_more link root (Router root) from to (step ∷ way) cost label leads taken other),
          subst (λ n. IsDistance link root has_root to n) (sym (cost_of-push (step ∷ way) last)) at,
          first_after step last way g h first hands,
        );
      }

  -- the root has no next hop
  pub no_hop_of_root : (h : NextHop) → IsHop link root has_root (Router root) h → ⊥
  no_hop_of_root h is = subst (λ (way : List TakenLink). IsFirst way h) (empty_to_root link root is.path.0 is.path.1.1) is.path.3

module _ {link : Links} {root : ℕ} {has_root : Type 0} {distance : Vertex → Option ℕ} (are : AreDistances link root has_root distance) where
  -- each next hop of a vertex is given by a least link into it
  pub hop_is_given : (to : Vertex) (h : NextHop) → to ≢ Router root → IsHop link root has_root to h → IsGiven link root distance (IsHop link root has_root) to h
  hop_is_given to h other is =
      let path = is.path in
      let e = ends_in link root to path.0 path.1.1 other in
      record {
        from = e.tail;
        cost = e.cost;
        label = e.label;
        least = last_least are to path.0 e path.1.0 path.2;
        gives = given_by_path link root has_root e.tail to e.before e.cost e.label h path.1.0 e.leads (beginning link root has_root to path.0 e path.1.0 path.2) (subst (λ (l : List TakenLink). IsFirst l h) e.whole path.3);
      }

  -- what a least link out of the root gives is a next hop
  from_root : (from to : Vertex) (cost : ℕ) (label : Label) (h : NextHop) → to ≢ Router root → IsShortestLink link distance from to cost label → from ≡ Router root → FirstOnly to label h → IsHop link root has_root to h
  from_root from to cost label h other least is_root first =
      let at = are.right to (least.near + cost) least.head in
      let has = at.reached.1.0 in
      let near : Some least.near ≡ Some 0 = sym least.tail ∙ ap distance is_root ∙ root_zero are has in
      let zero_near : least.near ≡ 0 = cc in
      let last : TakenLink = step_to to cost label in
      let costs : least.near + cost ≡ cost_of (last ∷ []) = omega (arith, cost_of-push [] last) in
      record {
        path = (last ∷ [], (has, (subst (λ v. link v to cost label) is_root least.taken, other, refl)), subst (λ n. IsDistance link root has_root to n) costs at, first);
      }

  -- what another least link passes on is a next hop
  from_other : (from to : Vertex) (cost : ℕ) (label : Label) (g h : NextHop) → to ≢ Router root → IsShortestLink link distance from to cost label → IsHop link root has_root from g → HandsOn g label h → IsHop link root has_root to h
  from_other from to cost label g h other least is hands =
      let path = is.path in
      let near : least.near ≡ cost_of path.0 = same_distance link root has_root from least.near (cost_of path.0) (are.right from least.near least.tail) path.2 in
      hop_of_longer link root has_root from to path.0 cost label g h path.1.0 path.1.1 path.3 least.taken other hands
      (subst (λ n. IsDistance link root has_root to (n + cost)) near (are.right to (least.near + cost) least.head))

  -- and what a least link gives is a next hop
  pub given_is_hop : (to : Vertex) (h : NextHop) → to ≢ Router root → IsGiven link root distance (IsHop link root has_root) to h → IsHop link root has_root to h
  given_is_hop to h other given = elim given.gives [
    | inl w ↦ from_root given.from to given.cost given.label h other given.least w.0 w.1
    | inr w ↦ from_other given.from to given.cost given.label w.1 h other given.least w.2 w.3
  ]

  -- the next hops are what the least links give
  pub hops_are_unions : AreUnions link root distance (IsHop link root has_root)
  hops_are_unions = record { union = λ to d is other h. (hop_is_given to h other, given_is_hop to h other) }

-- what is given from sets is given from sets that have as much
pub gives_more : (root : ℕ) (A B : Vertex → NextHop → Type 0) (from to : Vertex) (label : Label) (h : NextHop) → (from ≢ Router root → (g : NextHop) → A from g → B from g) → GivesHop root A from to label h → GivesHop root B from to label h
gives_more root A B from to label h more (inl w) = inl w
gives_more root A B from to label h more (inr w) = inr (w.0, w.1, more w.0 w.1 w.2, w.3)

module _ {link : Links} {root : ℕ} {has_root : Type 0} (links : AreLinks link root has_root) (distance : Vertex → Option ℕ) where
  -- Sets that are what the least links give are the same for each reached vertex but the root.
  pub one_solution : (A B : Vertex → NextHop → Type 0) → AreUnions link root distance A → AreUnions link root distance B
      → (to : Vertex) (d : ℕ) → distance to ≡ Some d → to ≢ Router root → (h : NextHop) → A to h ↔ B to h
  one_solution A B of_A of_B =
      along_least distance (λ v. v ≢ Router root → (h : NextHop) → A v h ↔ B v h) links (λ to d is before other h. (
        λ at. (of_B.union to d is other h).1 (
            let g = (of_A.union to d is other h).0 at in
            record { from = g.from; cost = g.cost; label = g.label; least = g.least; gives = gives_more root A B g.from to g.label h (λ not_root x. (before g.from g.cost g.label g.least not_root x).0) g.gives }),
        λ at. (of_A.union to d is other h).1 (
            let g = (of_B.union to d is other h).0 at in
            record { from = g.from; cost = g.cost; label = g.label; least = g.least; gives = gives_more root B A g.from to g.label h (λ not_root x. (before g.from g.cost g.label g.least not_root x).1) g.gives }),
      ))

  -- So such sets are the next hops.
  pub hops_from_local : (hops : Vertex → NextHop → Type 0) → AreDistances link root has_root distance → AreUnions link root distance hops
      → (to : Vertex) (d : ℕ) → distance to ≡ Some d → to ≢ Router root → (h : NextHop) → hops to h ↔ IsHop link root has_root to h
  hops_from_local hops are unions = one_solution hops (IsHop link root has_root) unions (hops_are_unions are)

  -- And where the root and what is not reached have none, they are so for each vertex.
  pub hops_everywhere : (hops : Vertex → NextHop → Type 0) → AreDistances link root has_root distance → AreUnions link root distance hops
      → ((h : NextHop) → hops (Router root) h → ⊥) → ((to : Vertex) → distance to ≡ None → (h : NextHop) → hops to h → ⊥)
      → (to : Vertex) (h : NextHop) → hops to h ↔ IsHop link root has_root to h
  hops_everywhere hops are unions blank_root blank to h = go (distance to) refl (cases_vertex to (Router root))
    where
      go : (o : Option ℕ) → distance to ≡ o → (to ≡ Router root) ⊎ (to ≢ Router root) → hops to h ↔ IsHop link root has_root to h
      go None none c = (λ at. absurd (blank to none h at), λ is. absurd (are.unreached to none is.path.0 is.path.1))
      go (Some d) at (inl is_root) =
          (λ x. absurd (blank_root h (subst (λ v. hops v h) is_root x)), λ x. absurd (no_hop_of_root link root has_root h (subst (λ v. IsHop link root has_root v h) is_root x)))
      go (Some d) at (inr other) = hops_from_local hops are unions to d at other h

  -- each reached vertex but the root has a next hop
  pub has_hop : HaveAddresses link → AreDistances link root has_root distance → (to : Vertex) (d : ℕ) → distance to ≡ Some d → to ≢ Router root → (h : NextHop) × IsHop link root has_root to h
  has_hop have are to d is other = go at.reached.0 at.reached.1 (subst (λ n. IsDistance link root has_root to n) (sym at.reached.2) at)
    where
      at : IsDistance link root has_root to d
      at = are.right to d is

      go : (way : List TakenLink) → IsPath link root has_root way to → IsDistance link root has_root to (cost_of way) → (h : NextHop) × IsHop link root has_root to h
      go [] path least = absurd (other (sym path.1))
      go (step ∷ way) path least = let first = has_first links have to step way path.1 in (first.0, record { path = (step ∷ way, path, least, first.1) })
