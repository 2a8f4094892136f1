-- The pictures of the areas.
use Rattle.std.specs.Prelude.{ℕ, ◌<◌, ◌≤◌, ◌++◌, List, [], ◌∷◌, Option, Some, None, Contains, codes}
use Rattle.ospf_types.specs.declared.config.AreaConfig.{AreaConfig}
use Rattle.area_trees.specs.Areas.{IsTreeIn}
use Rattle.intra.specs.Inputs.{AreaValue}
use Rattle.area_drawings.specs.Pictures.{drawing_text}
use Rattle.area_drawings.specs.declared.drawing.Drawing.{Drawing}
use Rattle.area_drawings.specs.Drawings.{IsDrawingOf}
use Rattle.area_drawings.specs.Reaching.{IsCount}
use Rattle.page_sections.specs.Areas.{area_heading_text, left_out_text}
use Rattle.page_replay.specs.declared.pictures.Picture.{Picture}

-- the area's tree is the tree of its database
abbrev pub HasTree : AreaValue → Type 0
HasTree a = IsTreeIn a.lsas a.tree

abbrev pub HaveTrees : List AreaValue → Type 0
HaveTrees areas = (a : AreaValue) → Contains areas a → HasTree a

-- the greatest number of vertices in a picture
abbrev pub most_vertices : ℕ
most_vertices = 200

-- an area is drawn as the router sees it where no more vertices are reached, and only there
abbrev pub IsDrawn : (root : ℕ) → AreaValue → (count : ℕ) → Option Drawing → Type 0
IsDrawn root a count (Some drawing) = IsDrawingOf root a.lsas a.tree drawing × (count ≤ most_vertices)
IsDrawn root a count None = most_vertices < count

pub record IsPictureOf (root : ℕ) (a : AreaValue) (p : Picture) : Type 0 where
  pub count : IsCount a.lsas a.tree p.count
  pub drawn : IsDrawn root a p.count p.drawing

-- ---- their text

abbrev pub drawn_text : (count : ℕ) → Option Drawing → List ℕ
drawn_text count (Some drawing) = codes "<div class=\"picture\">\n" ++ drawing_text drawing ++ codes "</div>\n"
drawn_text count None = left_out_text count most_vertices

abbrev pub picture_text : Picture → List ℕ
picture_text p = drawn_text p.count p.drawing

abbrev pub area_text : AreaConfig → Picture → List ℕ
area_text a picture = area_heading_text a ++ picture_text picture

-- each area with its picture
abbrev pub areas_text : List AreaConfig → List Picture → List ℕ
areas_text [] pictures = []
areas_text (a ∷ areas) [] = []
areas_text (a ∷ areas) (picture ∷ pictures) = area_text a picture ++ areas_text areas pictures
