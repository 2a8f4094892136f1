-- The links of a graph have metrics of 16 bits, since those of its rows have.
use Rattle.std.proofs.Common.{◌≡◌, ℕ, ◌<◌, List, Option, Some, None, refl, sym, ◌∙◌}
use Rattle.std.specs.Prelude.{option_map}
use Rattle.std.specs.FinMap.{find}
use Rattle.std.proofs.lemmas.List.Elements.{All-contains}
use Rattle.ospf_types.specs.declared.entry.Vertex.{Vertex}
use Rattle.ospf_types.specs.Vertices.{vertex_cmp}
use Rattle.graph_links.specs.declared.link_end.LinkEnd.{LinkEnd}
use Rattle.graph_links.specs.declared.link.GraphLink.{GraphLink}
use Rattle.graph_links.specs.declared.link.Up.{Up}
use Rattle.graph_links.specs.declared.row.Row.{Row}
use Rattle.vertex_graph.specs.Graphs.{HasCheapLinks}
use Rattle.vertex_graph.specs.Rows.{graph_of, AreRows}
use Rattle.vertex_graph.proofs.Changed.{get_graph}
use Rattle.vertex_graph.proofs.PairLinks.{pair_of_link}

-- the row of a vertex that has ends
row_of : (o : Option Row) (ends : List LinkEnd) → option_map (λ (row : Row). row.ends.items) o ≡ Some ends → (row : Row) × (o ≡ Some row)
row_of (Some row) ends is = (row, refl)
row_of None ends is = absurd cc

pub cheap_links : (root : ℕ) (rows : List (Vertex × Row)) (ups : List Up) → AreRows root rows ups → HasCheapLinks (graph_of root rows ups)
cheap_links root rows ups are from to cost label taken =
    let pair = pair_of_link (graph_of root rows ups) are.ends from to cost label taken in
    let row = row_of (find vertex_cmp from rows) pair.0 (sym (get_graph root rows ups from) ∙ pair.2) in
    let l : GraphLink = record { from = from; to = to; cost = cost; label = label } in
    let is = are.right from row.0 row.1 in
    All-contains (λ (m : GraphLink). m.cost < 65536) row.0.out.items l is.out_cheap ((is.out l).1 (refl, taken))
