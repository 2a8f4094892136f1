-- How a graph keeps its vertices: each with its ends, and with its links as lists.
use Rattle.std.specs.Prelude.{ℕ, ◌≡◌, List, Some, map}
use Rattle.std.specs.FinMap.{find, from_entries}
use Rattle.ospf_types.specs.declared.entry.Vertex.{Vertex}
use Rattle.ospf_types.specs.Vertices.{vertex_cmp}
use Rattle.graph_links.specs.declared.link.Up.{Up}
use Rattle.graph_links.specs.declared.row.Row.{Row}
use Rattle.vertex_graph.specs.Graphs.{GraphValue, HasFewRouters, HasEnds, LinksOf}
use Rattle.graph_links.specs.Sides.{IsRow}

-- the graph that the rows stand for
abbrev pub graph_of : ℕ → List (Vertex × Row) → List Up → GraphValue
graph_of root rows ups = record { root = root; ends = from_entries (map (λ (p : Vertex × Row). (p.0, p.1.ends.items)) rows); interfaces = ups }

-- each row has the links of its vertex, and the graph is one that may be returned
pub record AreRows (root : ℕ) (rows : List (Vertex × Row)) (ups : List Up) : Type 0 where
  pub right : (v : Vertex) (row : Row) → find vertex_cmp v rows ≡ Some row → IsRow (LinksOf (graph_of root rows ups)) v row
  pub few : HasFewRouters (graph_of root rows ups)
  pub ends : HasEnds (graph_of root rows ups)
