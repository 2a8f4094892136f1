-- The links that are drawn.
use Rattle.std.specs.Prelude.{◌↔◌, ◌⊎◌, ◌==◌, ℕ, ◌+◌, ◌≡◌, ◌≢◌, List, Contains}
use Rattle.std.specs.List.{AllPairs}
use Rattle.ospf_types.specs.declared.entry.Vertex.{Vertex}
use Rattle.ospf_types.specs.declared.label.Label.{Label}
use Rattle.area_drawings.specs.declared.drawing.DrawnEnd.{DrawnEnd}
use Rattle.area_drawings.specs.declared.drawing.DrawnLink.{DrawnLink}
use Rattle.vertex_graph.specs.Graphs.{GraphValue, LinksOf}
use Rattle.vertex_graph.specs.GraphLink.{GraphLink}
use Rattle.area_drawings.specs.declared.stands.Stand.{Stand}

-- no two are of one vertex
abbrev pub AreStandsApart : List Stand → Type 0
AreStandsApart stands = AllPairs (λ s t. s.reached.vertex ≢ t.reached.vertex) stands

-- the vertex in its place
abbrev pub IsStandOf : List Stand → Vertex → Stand → Type 0
IsStandOf stands v s = Contains stands s × (s.reached.vertex ≡ v)

-- the vertex is not drawn
abbrev pub LacksVertex : List Stand → Vertex → Type 0
LacksVertex stands v = (s : Stand) → IsStandOf stands v s → ⊥

-- the end of a link at a vertex, in the cell of the vertex
abbrev pub end_of : Stand → DrawnEnd
end_of s = record { vertex = s.reached.vertex; place = s.place }

-- The drawing of a link of this cost. It is on the tree if the distance and the cost together are
-- the distance of its head.
abbrev pub link_between : Stand → ℕ → Stand → DrawnLink
link_between s cost t = record { from = end_of s; to = end_of t; cost = cost; on_tree = s.reached.distance + cost == t.reached.distance }

-- it is what is drawn of a link of the graph from the one to the other
abbrev pub IsLinkBetween : GraphValue → Stand → Stand → DrawnLink → Type 0
IsLinkBetween g s t l = (cost : ℕ) × ((label : Label) × LinksOf g s.reached.vertex t.reached.vertex cost label) × (l ≡ link_between s cost t)

-- it is what is drawn of a link out of this vertex to one of the others
abbrev pub IsLinkOut : GraphValue → List Stand → Stand → DrawnLink → Type 0
IsLinkOut g stands s l = (t : Stand) × Contains stands t × IsLinkBetween g s t l

-- exactly the links out of the vertex
abbrev pub AreLinksOut : GraphValue → List Stand → Stand → List DrawnLink → Type 0
AreLinksOut g stands s links = (l : DrawnLink) → Contains links l ↔ IsLinkOut g stands s l

-- exactly the links of the graph between these vertices
abbrev pub AreLinksBetween : GraphValue → List Stand → List DrawnLink → Type 0
AreLinksBetween g stands links = (l : DrawnLink) → Contains links l ↔ ((s : Stand) × Contains stands s × IsLinkOut g stands s l)

-- it is what is drawn of this link, out of a vertex
abbrev pub IsDrawnOf : List Stand → Stand → GraphLink → DrawnLink → Type 0
IsDrawnOf stands s link l = (t : Stand) × IsStandOf stands link.to t × (l ≡ link_between s link.cost t)

-- the link is added, if both ends are drawn
abbrev pub AddsLink : List Stand → Stand → GraphLink → List DrawnLink → List DrawnLink → Type 0
AddsLink stands s link old new = (l : DrawnLink) → Contains new l ↔ (Contains old l ⊎ IsDrawnOf stands s link l)

-- this one is there now, and those that were
abbrev pub HasOneMore : DrawnLink → List DrawnLink → List DrawnLink → Type 0
HasOneMore link old new = (l : DrawnLink) → Contains new l ↔ (Contains old l ⊎ (l ≡ link))

-- there are no duplicates if there were none
abbrev pub KeepsApart : List DrawnLink → List DrawnLink → Type 0
KeepsApart old new = AllPairs (λ k l. k ≢ l) old → AllPairs (λ k l. k ≢ l) new
