-- The drawing of the columns: a line down each, and the distance of its vertices above it.
use Rattle.std.specs.Prelude.{ℕ, ◌-◌, ◌++◌, List, codes, decimal}
use Rattle.std.specs.List.{flat_map, enumerate_from}
use Rattle.area_drawings.specs.Layout.{x_of, text_start}

-- a line at this x, from below the distances to the lower end of a picture of this height
unfoldable pub axis_text : (height x : ℕ) → List ℕ
axis_text height x = codes "<line class=\"axis\" x1=\"" ++ (decimal x ++ (codes "\" y1=\"24\" x2=\"" ++ (decimal x ++ (codes "\" y2=\"" ++ (decimal (height - 10) ++ codes "\"/>\n")))))

-- a distance above such a line
abbrev pub distance_text : (x distance : ℕ) → List ℕ
distance_text x distance = text_start (codes "c") x 14 ++ decimal distance ++ codes "</text>\n"

-- a column: which one it is, and the distance of its vertices
abbrev pub column_text : (height : ℕ) → ℕ × ℕ → List ℕ
column_text height (column, distance) = axis_text height (x_of column) ++ distance_text (x_of column) distance

-- the caption of the numbers above the columns
unfoldable pub caption_text : List ℕ
caption_text = codes "<text class=\"s\" x=\"6\" y=\"14\">cost</text>\n"

-- the columns of these distances, from the left, in a picture of this height
abbrev pub columns_text : (height : ℕ) → (distances : List ℕ) → List ℕ
columns_text height distances = flat_map (column_text height) (enumerate_from 0 distances) ++ caption_text
