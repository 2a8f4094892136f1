-- The distances after those of lost vertices were removed, and the root's was set.
use Rattle.std.proofs.Common.{◌≡◌, ℕ, ◌+◌, ◌<◌, ◌==◌, Bool, true, not, List, [], ◌∷◌, length, take, get_or, Option, refl, sym, ap, subst, ◌∙◌, inl, inr}
use Rattle.std.specs.List.{Contains}
use Rattle.std.specs.FinMap.{get, insert, remove}
use Rattle.std.proofs.lemmas.List.{get_or_default}
use Rattle.ospf_types.specs.declared.entry.Vertex.{Vertex}
use Rattle.ospf_types.specs.declared.entry.Vertex.TheVariants.{Router, Network}
use Rattle.ospf_types.specs.declared.label.Label.{Label}
use Rattle.ospf_types.specs.Links.{IsVertexOf}
use Rattle.ospf_types.proofs.Elements.{no_element, first_element}
use Rattle.vertex_graph.specs.GraphLink.{GraphLink}
use Rattle.vertex_graph.specs.Graphs.{GraphValue, graph_view, LinksOf, HasRoot, AreLinksFrom}
use Rattle.vertex_queue.specs.Maps.{DistanceMap}
use Rattle.vertex_queue.proofs.Elements.{cases_vertex}
use Rattle.vertex_queue.proofs.VertexMaps.{set_here, set_elsewhere, gone_here, gone_elsewhere}
use Rattle.spf.specs.Offers.{IsCleared}
use Rattle.spf.specs.Repairs.{IsReset}
use Rattle.spf.proofs.Offering.{still_contained, now_contained, contained_so_far}

-- none taken out
pub none_cleared : (old : Vertex → Option ℕ) → IsCleared old [] old
none_cleared old = record { blank = λ v none. absurd (no_element v none); kept = λ v kept. refl }

-- one more taken out
pub more_cleared : (old : Vertex → Option ℕ) (distances : DistanceMap) (lost : List Vertex) (i : ℕ) (default : Vertex) → i < length lost → (new : DistanceMap) → new ≡ remove distances (get_or lost i default)
    → IsCleared old (take i lost) (get distances) → IsCleared old (take (i + 1) lost) (get new)
more_cleared old distances lost i default within new removed c = subst (λ (m : DistanceMap). IsCleared old (take (i + 1) lost) (get m)) (sym removed) (record {
  blank = λ v gone. elim (cases_vertex v x) [
    | inl same ↦ ap (get (remove distances x)) same ∙ gone_here distances x
    | inr other ↦ elim (contained_so_far lost i x within is v gone) [
      | inl was ↦ gone_elsewhere distances x v other ∙ c.blank v was
      | inr same ↦ absurd (other (sym same))
    ]
  ];
  kept = λ v kept.
      gone_elsewhere distances x v (λ same. kept (subst (λ u. Contains (take (i + 1) lost) u) (sym same) (now_contained lost i x within is)))
      ∙ c.kept v (λ was. kept (still_contained lost i x within is v was));
})
  where
    x : Vertex
    x = get_or lost i default

    is : x ≡ get_or lost i x
    is = get_or_default lost i default x within

module _ {root : ℕ} {has_root : Type 0} {old : Vertex → Option ℕ} {lost : List Vertex} (cleared : DistanceMap) (c : IsCleared old lost (get cleared)) where
  -- the root is a vertex
  pub reset_with : (new : DistanceMap) → has_root → new ≡ insert cleared (Router root) 0 → IsReset root has_root old lost (get new)
  reset_with new has is = subst (λ (m : DistanceMap). IsReset root has_root old lost (get m)) (sym is) (record {
    rooted = λ yes. set_here cleared (Router root) 0;
    rootless = λ none. absurd (none has);
    blank = λ v other gone. set_elsewhere cleared (Router root) v 0 other ∙ c.blank v gone;
    kept = λ v other kept. set_elsewhere cleared (Router root) v 0 other ∙ c.kept v kept;
  })

  -- the root is none
  pub reset_without : (new : DistanceMap) → (has_root → ⊥) → new ≡ remove cleared (Router root) → IsReset root has_root old lost (get new)
  reset_without new none is = subst (λ (m : DistanceMap). IsReset root has_root old lost (get m)) (sym is) (record {
    rooted = λ has. absurd (none has);
    rootless = λ yes. gone_here cleared (Router root);
    blank = λ v other gone. gone_elsewhere cleared (Router root) v other ∙ c.blank v gone;
    kept = λ v other kept. gone_elsewhere cleared (Router root) v other ∙ c.kept v kept;
  })

-- a router that links lead out of is a vertex
router_there : (g : GraphValue) (r : ℕ) (to : Vertex) (cost : ℕ) (label : Label) → LinksOf g (Router r) to cost label → IsVertexOf (graph_view g) (Router r)
router_there g r (Router to) cost label is = (is.0, is.1, is.3)
router_there g r (Network to) cost label is = (is.0, is.1, is.3)

-- so the root is one where links lead out of it
pub rooted_by : (g : GraphValue) (links : List GraphLink) (v : Vertex) (none : Bool) → v ≡ Router g.root → AreLinksFrom g v links → none ≡ (length links == 0) → not none ≡ true → HasRoot g
rooted_by g [] v none is exact test some = absurd cc
rooted_by g (l ∷ links) v none is exact test some =
    let at = (exact l).0 (first_element l links) in
    router_there g g.root l.to l.cost l.label (subst (λ (u : Vertex). LinksOf g u l.to l.cost l.label) (at.0 ∙ is) at.1)
