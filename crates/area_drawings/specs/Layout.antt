-- The coordinates in a picture, in pixels from its upper left corner.
use Rattle.std.specs.Prelude.{ℕ, ◌+◌, ◌-◌, ◌*◌, ◌++◌, ◌&&◌, ◌==◌, Bool, List, codes, decimal, if◌then◌else◌, nat_lt}
use Rattle.std.specs.Int.{abs_diff}
use Rattle.area_drawings.specs.declared.drawing.GridCell.{GridCell}

-- the middle of a column
abbrev pub x_of : (column : ℕ) → ℕ
x_of column = 60 + 118 * column

-- the middle of a row
abbrev pub y_of : (row : ℕ) → ℕ
y_of row = 46 + 52 * row

-- the width of a picture with this number of columns. One without columns has the room of one
abbrev pub width_of : (columns : ℕ) → ℕ
width_of columns = 218 + 118 * (columns - 1)

-- the height of a picture with this number of rows. One without rows has the room of one
abbrev pub height_of : (rows : ℕ) → ℕ
height_of rows = 102 + 52 * (rows - 1)

-- true if both are in one row with a column between them, so that a straight line could lead
-- through the vertices there
abbrev pub is_blocked : GridCell → GridCell → Bool
is_blocked from to = (from.row == to.row) && nat_lt 1 (abs_diff from.column to.column)

-- the height to which the curve from one cell to the other rises
abbrev pub lift : GridCell → GridCell → ℕ
lift from to = if is_blocked from to then 26 else 0

-- the x coordinate of the bend of the curve: halfway, or to the right of both if they are in one
-- column
abbrev pub bend_x : GridCell → GridCell → ℕ
bend_x from to = if from.column == to.column then x_of from.column + 44 else 60 + 59 * (from.column + to.column)

-- a point
abbrev pub point_text : (x y : ℕ) → List ℕ
point_text x y = decimal x ++ codes " " ++ decimal y

-- the coordinates of a cell in the picture
abbrev pub place_text : GridCell → List ℕ
place_text p = point_text (x_of p.column) (y_of p.row)

-- the beginning of a text of this class, with its middle at this point
unfoldable pub text_start : (class : List ℕ) → (x y : ℕ) → List ℕ
text_start class x y = codes "<text class=\"" ++ (class ++ (codes "\" x=\"" ++ (decimal x ++ (codes "\" y=\"" ++ (decimal y ++ codes "\" text-anchor=\"middle\">")))))
