-- The view of a graph has one list of links of each router.
use Rattle.std.proofs.Common.{◌≡◌, ℕ, List, map, sym, ap, ◌∙◌}
use Rattle.ospf_types.specs.Lsa.{RouterLink}
use Rattle.vertex_graph.specs.Graphs.{GraphValue, graph_view, link_of}

-- a router has one list of links
pub one_links : (g : GraphValue) (router flags other : ℕ) (xs ys : List RouterLink) → (graph_view g).HasRouter router flags xs → (graph_view g).HasRouter router other ys → xs ≡ ys
one_links g router flags other xs ys x y =
    let same : x.0 ≡ y.0 = let a = x.1 in let b = y.1 in cc in
    x.3 ∙ ap (map link_of) same ∙ sym y.3
