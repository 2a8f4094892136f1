-- The picture of an area as SVG.
use Rattle.std.specs.Prelude.{ℕ, ◌++◌, List, codes, decimal, length}
use Rattle.area_drawings.specs.declared.drawing.Drawing.{Drawing}
use Rattle.area_drawings.specs.Layout.{width_of, height_of}
use Rattle.area_drawings.specs.DrawnColumns.{columns_text}
use Rattle.area_drawings.specs.DrawnLinks.{links_text}
use Rattle.area_drawings.specs.Vertices.{vertices_text}

-- the part of the picture that is shown, which is all of it
unfoldable pub box_text : (width height : ℕ) → List ℕ
box_text width height = codes "<svg xmlns=\"http://www.w3.org/2000/svg\" viewBox=\"0 0 " ++ (decimal width ++ (codes " " ++ (decimal height ++ codes "\"")))

-- the size of the picture, and what it shows, for readers who do not see it
unfoldable pub size_text : (width height : ℕ) → List ℕ
size_text width height =
    codes " width=\"" ++ (decimal width ++ (codes "\" height=\"" ++ (decimal height ++ codes "\" role=\"img\" aria-label=\"The graph of the area, with its shortest-path tree\">\n")))

-- the beginning of a picture of this size
abbrev pub opening_text : (width height : ℕ) → List ℕ
opening_text width height = box_text width height ++ size_text width height

-- the columns, and above them the links, and above these the vertices
unfoldable pub drawing_text : Drawing → List ℕ
drawing_text d =
    opening_text (width_of (length d.columns)) (height_of d.rows)
    ++ columns_text (height_of d.rows) d.columns
    ++ links_text d.links
    ++ vertices_text d.root d.vertices
    ++ codes "</svg>\n"
