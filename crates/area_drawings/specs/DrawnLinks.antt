-- The drawing of the links: a curve for each, and the costs of the links on the tree.
use Rattle.std.specs.Prelude.{ℕ, ◌+◌, ◌-◌, ◌*◌, ◌/◌, ◌++◌, ◌==◌, List, [], codes, decimal, if◌then◌else◌, nat_lt}
use Rattle.std.specs.List.{flat_map}
use Rattle.ospf_types.specs.Text.{address_text}
use Rattle.area_drawings.specs.declared.drawing.GridCell.{GridCell}
use Rattle.area_drawings.specs.declared.drawing.DrawnLink.{DrawnLink}
use Rattle.area_drawings.specs.Layout.{y_of, lift, bend_x, point_text, place_text, text_start}
use Rattle.area_drawings.specs.Vertices.{id_of}

-- a Bezier curve from one cell to the other. Both of its control points are at the x coordinate of
-- its bend, each as high as one of the cells
abbrev pub curve_text : GridCell → GridCell → List ℕ
curve_text from to =
    codes "M" ++ place_text from ++ codes "C" ++ point_text (bend_x from to) (y_of from.row - lift from to) ++ codes " " ++ point_text (bend_x from to) (y_of to.row - lift from to) ++ codes " " ++ place_text to

-- the text for a link under the pointer
abbrev pub link_title : DrawnLink → List ℕ
link_title l =
    codes "<title>" ++ address_text (id_of l.from.vertex) ++ codes " to " ++ address_text (id_of l.to.vertex) ++ codes ", cost " ++ decimal l.cost ++ codes "</title>"

-- a link, of this class
abbrev pub drawn_link : (class : List ℕ) → DrawnLink → List ℕ
drawn_link class l = codes "<path class=\"" ++ class ++ codes "\" d=\"" ++ curve_text l.from.place l.to.place ++ codes "\">" ++ link_title l ++ codes "</path>\n"

-- the x coordinate of the cost of a link: right of the middle, or left of it if the link leads down
abbrev pub cost_x : GridCell → GridCell → ℕ
cost_x from to = if nat_lt from.row to.row then bend_x from to - 11 else bend_x from to + 11

-- the height of the cost of a link: above a link that stays in its row, whose curve rises by three
-- quarters of what its control points do, and else below it, where there are no names of vertices
abbrev pub cost_y : GridCell → GridCell → ℕ
cost_y from to = if from.row == to.row then y_of from.row - lift from to * 3 / 4 - 3 else (y_of from.row + y_of to.row) / 2 + 8

-- a cost near the middle of a link between these cells; nothing if it is 0, as from a network to
-- its routers
abbrev pub cost_text : GridCell → GridCell → (cost : ℕ) → List ℕ
cost_text from to cost =
    if cost == 0
    then []
    else text_start (codes "s") (cost_x from to) (cost_y from to) ++ decimal cost ++ codes "</text>\n"

-- a link that is not on the tree; nothing of one that is
abbrev pub link_off_tree : DrawnLink → List ℕ
link_off_tree l = if l.on_tree then [] else drawn_link (codes "link") l

-- a link that is on the tree, with its cost; nothing of one that is not
abbrev pub link_on_tree : DrawnLink → List ℕ
link_on_tree l = if l.on_tree then drawn_link (codes "tree") l ++ cost_text l.from.place l.to.place l.cost else []

-- the links that are not on the tree, and then those that are, so that these lie above
abbrev pub links_text : List DrawnLink → List ℕ
links_text links = flat_map link_off_tree links ++ flat_map link_on_tree links
