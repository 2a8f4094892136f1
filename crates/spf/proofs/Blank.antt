-- The blank tree is right for the links of a graph but those out of the root, and nothing of it is
-- lost: so a tree is built as the repair for which the root's links are added.
use Rattle.std.proofs.Common.{◌≡◌, ℕ, List, [], Some, None, refl, sym, subst, ◌∙◌, inl, inr}
use Rattle.std.specs.FinMap.{get, get-empty}
use Rattle.std.specs.List.{Contains}
use Rattle.ospf_types.specs.declared.entry.Vertex.{Vertex}
use Rattle.ospf_types.specs.declared.entry.Vertex.TheVariants.{Router}
use Rattle.ospf_types.specs.declared.hop.NextHop.{NextHop}
use Rattle.ospf_types.specs.declared.label.Label.{Label}
use Rattle.ospf_types.specs.Vertices.{vertex_cmp}
use Rattle.ospf_types.proofs.Elements.{no_element}
use Rattle.vertex_graph.specs.GraphLink.{GraphLink}
use Rattle.vertex_graph.specs.Graphs.{GraphValue, LinksOf, AreLinksFrom}
use Rattle.spf.specs.Changes.{link_value}
use Rattle.spf.specs.Parts.{LinksBefore, AreLost, hops_of}
use Rattle.spf.specs.TreeValues.{TreeValue, IsTreeBefore, IsBegun, blank_value}
use Rattle.spf.proofs.CarriedOut.{graph_links}

-- nothing has a distance
pub unset : (v : Vertex) (d : ℕ) → get blank_value.distances v ≡ Some d → ⊥
unset v d at = let differ : Some d ≡ None = sym at ∙ get-empty vertex_cmp v in cc

-- nothing has a next hop
pub hopless : (v : Vertex) (h : NextHop) → hops_of blank_value.hops v h → ⊥
hopless v h x = let differ : Some x.0 ≡ None = sym x.1 ∙ get-empty vertex_cmp v in cc

module _ {g : GraphValue} {came : List GraphLink} where
  -- The links that did not come are none of the root's.
  pub blank_before : AreLinksFrom g (Router g.root) came → IsTreeBefore g [] came blank_value
  blank_before exact = record {
    fresh = refl;
    links = record {
      out_of_router = λ router to cost label was. (graph_links g).out_of_router router to cost label (stands (Router router) to cost label was).0;
      out_of_network = λ network to cost label was. (graph_links g).out_of_network network to cost label (stands _ to cost label was).0;
      out_of_root = λ to cost label was. let s = stands (Router g.root) to cost label was in absurd (s.1 ((exact (link_value (Router g.root) to cost label)).1 (refl, s.0)));
    };
    tree = record {
      distances = record { right = λ to d at. absurd (unset to d at); unreached = λ to none way path. unset (Router g.root) 0 path.0 };
      right = λ to h. (λ x. absurd (hopless to h x), λ is. absurd (unset (Router g.root) 0 is.path.1.0));
    };
    came = λ l c. ((exact l).0 c).1;
  }
    where
      stands : (from to : Vertex) (cost : ℕ) (label : Label) → LinksBefore g [] came from to cost label → LinksOf g from to cost label × (Contains came (link_value from to cost label) → ⊥)
      stands from to cost label was = elim was [ inl s ↦ s | inr none ↦ absurd (no_element _ none) ]

  -- nothing is lost
  pub blank_lost : AreLost g [] came (get blank_value.distances) [] []
  blank_lost = record {
    losing_support = record {
      held = record { held = λ to d at. absurd (unset to d at) };
      dear = record { dear = λ to d none. absurd (no_element to none) };
      told = record { went = λ from to cost label other least. absurd (no_element _ least.taken); led = λ from to cost label d e none. absurd (no_element from none) };
      reached = λ v none. absurd (no_element v none);
      suspected = λ v none. absurd (no_element v none);
    };
    why = λ v none. absurd (no_element v none);
  }

  -- So the repair of the blank tree is begun.
  pub blank_begun : (t : TreeValue) (lost stale : List Vertex) (root : ℕ) → t ≡ blank_value → lost ≡ [] → stale ≡ [] → root ≡ g.root → AreLinksFrom g (Router root) came → IsBegun g [] came t lost stale
  blank_begun t lost stale root is_blank none_lost none_stale is_root exact =
      subst (λ (u : TreeValue). IsBegun g [] came u lost stale) (sym is_blank)
      (subst (λ (vs : List Vertex). IsBegun g [] came blank_value vs stale) (sym none_lost)
      (subst (λ (vs : List Vertex). IsBegun g [] came blank_value [] vs) (sym none_stale)
      (record { before = blank_before (subst (λ (r : ℕ). AreLinksFrom g (Router r) came) is_root exact); losses = blank_lost })))
