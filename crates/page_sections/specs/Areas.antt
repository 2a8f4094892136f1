-- The headings and legends of the pictures of the areas.
use Rattle.std.specs.Prelude.{ℕ, ◌++◌, List, [], ◌∷◌, Option, Some, None, codes, decimal}
use Rattle.std.specs.List.{concat}
use Rattle.ospf_types.specs.Text.{address_text}
use Rattle.ospf_types.specs.declared.config.AreaConfig.{AreaConfig}
use Rattle.ospf_types.specs.declared.config.Stub.{Stub}

-- the legend of a picture: each mark and its meaning
abbrev pub legend_text : List ℕ
legend_text = concat (
    codes "<p class=\"legend\">\n"
    ∷ codes "<svg width=\"30\" height=\"20\"><path class=\"tree\" d=\"M2 10H28\"/></svg> shortest-path tree with its costs,\n"
    ∷ codes "<svg width=\"30\" height=\"20\"><path class=\"link\" d=\"M2 10H28\"/></svg> other link (point at a link for its cost);\n"
    ∷ codes "<svg width=\"20\" height=\"20\"><circle class=\"root\" cx=\"10\" cy=\"10\" r=\"8\"/></svg> this router,\n"
    ∷ codes "<svg width=\"20\" height=\"20\"><circle class=\"r\" cx=\"10\" cy=\"10\" r=\"8\"/></svg> another router\n"
    ∷ codes "(B: area border router, E: AS boundary router),\n"
    ∷ codes "<svg width=\"20\" height=\"20\"><rect class=\"n\" x=\"3\" y=\"4\" width=\"14\" height=\"12\" rx=\"2\"/></svg> transit network.\n"
    ∷ codes "Vertices stand by their distance, which is above them.</p>\n"
    ∷ [])

-- the heading of all areas
abbrev pub areas_heading_text : List ℕ
areas_heading_text = codes "<h2 id=\"areas\">Areas</h2>\n" ++ legend_text

-- the text for a stub area, if the area is one
abbrev pub stub_text : Option Stub → List ℕ
stub_text None = []
stub_text (Some stub) = codes " (stub)"

-- the heading of an area, with its Area ID as a place that links can name
abbrev pub area_heading_text : AreaConfig → List ℕ
area_heading_text a =
    concat (codes "<h3 id=\"area-" ∷ address_text a.id ∷ codes "\">" ∷ [])
    ++ (codes "Area " ++ address_text a.id
    ++ (stub_text a.stub ++ codes "</h3>\n"))

-- the text for a graph that has too many vertices to be drawn
abbrev pub left_out_text : (vertices most : ℕ) → List ℕ
left_out_text vertices most = concat (
    codes "<p>The graph has "
    ∷ decimal vertices
    ∷ codes " routers and transit networks. A picture is drawn of at most "
    ∷ decimal most
    ∷ codes ".</p>\n"
    ∷ [])
