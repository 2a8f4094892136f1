-- The drawing of the vertices: a mark for each, and its name.
use Rattle.std.specs.Prelude.{ℕ, ◌+◌, ◌-◌, ◌++◌, ◌==◌, List, [], ◌∷◌, codes, decimal, if◌then◌else◌}
use Rattle.std.specs.List.{flat_map, join_by}
use Rattle.ospf_types.specs.declared.entry.Vertex.{Vertex}
use Rattle.ospf_types.specs.declared.entry.Vertex.TheVariants.{Router, Network}
use Rattle.ospf_types.specs.declared.hop.NextHop.{NextHop}
use Rattle.ospf_types.specs.Text.{address_text, hop_text}
use Rattle.area_drawings.specs.declared.drawing.DrawnVertex.{DrawnVertex}
use Rattle.area_drawings.specs.declared.drawing.GridCell.{GridCell}
use Rattle.area_drawings.specs.declared.drawing.Roles.{Roles}
use Rattle.area_drawings.specs.Layout.{x_of, y_of, text_start}

-- the Router ID of a router, or the address of the Designated Router of a transit network
abbrev pub id_of : Vertex → ℕ
id_of (Router id) = id
id_of (Network id) = id

-- next hops with commas between them; nothing where there are none
abbrev pub hops_text : List NextHop → List ℕ
hops_text [] = []
hops_text (hop ∷ hops) = codes " over " ++ join_by hop_text (codes ", ") (hop ∷ hops)

-- the text for a vertex under the pointer
unfoldable pub vertex_title : DrawnVertex → List ℕ
vertex_title v = codes "<title>" ++ address_text (id_of v.vertex) ++ codes ", cost " ++ decimal v.distance ++ hops_text v.hops ++ codes "</title>"

-- the class of a router, which is the root if it has this Router ID
abbrev pub router_class : (root id : ℕ) → List ℕ
router_class root id = if id == root then codes "root" else codes "r"

-- the beginning of a circle of this class around this point
unfoldable pub circle_start : (class : List ℕ) → (x y : ℕ) → List ℕ
circle_start class x y =
    codes "<circle class=\"" ++ (class ++ (codes "\" cx=\"" ++ (decimal x ++ (codes "\" cy=\"" ++ (decimal y ++ codes "\" r=\"8\">")))))

-- a circle of this class, which has the title
abbrev pub circle_text : (class : List ℕ) → GridCell → (title : List ℕ) → List ℕ
circle_text class p title = circle_start class (x_of p.column) (y_of p.row) ++ title ++ codes "</circle>\n"

-- the beginning of a rectangle, whose upper left corner is this point
unfoldable pub rectangle_start : (x y : ℕ) → List ℕ
rectangle_start x y =
    codes "<rect class=\"n\" x=\"" ++ (decimal x ++ (codes "\" y=\"" ++ (decimal y ++ codes "\" width=\"14\" height=\"12\" rx=\"2\">")))

-- a rectangle with its middle at a place, which has the title
abbrev pub rectangle_text : GridCell → (title : List ℕ) → List ℕ
rectangle_text p title = rectangle_start (x_of p.column - 7) (y_of p.row - 6) ++ title ++ codes "</rect>\n"

-- a circle for a router, a rectangle for a network
abbrev pub mark_text : (root : ℕ) → Vertex → GridCell → (title : List ℕ) → List ℕ
mark_text root (Router id) p title = circle_text (router_class root id) p title
mark_text root (Network id) p title = rectangle_text p title

-- B for an area border router, E for an AS boundary router, after a space
abbrev pub roles_text : Roles → List ℕ
roles_text r = if r.border then (if r.boundary then codes " BE" else codes " B") else (if r.boundary then codes " E" else [])

-- the address of a network, or that of a router and its roles
abbrev pub name_text : Vertex → Roles → List ℕ
name_text (Router id) r = address_text id ++ roles_text r
name_text (Network id) r = address_text id

-- a name below a place
abbrev pub label_text : GridCell → (name : List ℕ) → List ℕ
label_text p name = text_start (codes "t") (x_of p.column) (y_of p.row + 21) ++ name ++ codes "</text>\n"

-- a vertex, where the root has this Router ID
unfoldable pub drawn_vertex : (root : ℕ) → DrawnVertex → List ℕ
drawn_vertex root v = mark_text root v.vertex v.place (vertex_title v) ++ label_text v.place (name_text v.vertex v.roles)

abbrev pub vertices_text : (root : ℕ) → List DrawnVertex → List ℕ
vertices_text root vertices = flat_map (drawn_vertex root) vertices
