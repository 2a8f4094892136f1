-- The summary-LSAs that are due.
use Rattle.std.specs.Prelude.{ℕ, ◌++◌, List, [], ◌∷◌, codes, decimal, length, map, if◌then◌else◌, ◌==◌}
use Rattle.std.specs.List.{concat, flat_map}
use Rattle.ospf_types.specs.Text.{address_text, prefix_text}
use Rattle.ospf_types.specs.declared.key.Dest.{Dest}
use Rattle.ospf_types.specs.declared.key.Dest.TheVariants.{Net, Router}
use Rattle.summary_lists.specs.Lists.{AreaSummariesValue}
use Rattle.summary_lists.specs.declared.due.DueSummary.{DueSummary}

-- a network, or the Router ID of an AS boundary router
abbrev pub dest_text : Dest → List ℕ
dest_text (Net p) = prefix_text p
dest_text (Router router) = address_text router

-- the LS type, the destination and the metric
abbrev pub row_text : DueSummary → List ℕ
row_text due =
    (codes "<tr><td>" ++ (decimal due.kind ++ codes "<td>"))
    ++ (dest_text due.dest ++ (codes "<td>" ++ (decimal due.metric ++ codes "\n")))

abbrev pub head_text : List ℕ
head_text = codes "<table class=\"due\">\n<thead>\n<tr><th>LS type<th>Destination<th>Metric\n</thead>\n<tbody>\n"

-- a table of the list
abbrev pub table_text : List DueSummary → List ℕ
table_text list = head_text ++ (flat_map row_text list ++ codes "</tbody>\n</table>\n")

-- a table of the list, or that it is empty
abbrev pub list_text : List DueSummary → List ℕ
list_text list = if length list == 0 then codes "<p>No summary-LSA is due in this area.</p>\n" else table_text list

-- the summaries due in an area
abbrev pub due_text : (area : ℕ) → List DueSummary → List ℕ
due_text area list = concat (codes "<h3>Area " ∷ address_text area ∷ codes "</h3>\n" ∷ []) ++ list_text list

abbrev pub area_text : ℕ × List DueSummary → List ℕ
area_text e = due_text e.0 e.1

-- each area, or that there is none
abbrev pub areas_text : List (ℕ × List DueSummary) → List ℕ
areas_text areas = if length areas == 0 then codes "<p>No area is configured.</p>\n" else flat_map area_text areas

-- the summaries due in all areas, each with its Area ID
abbrev pub summaries_text : List (ℕ × List DueSummary) → List ℕ
summaries_text areas = codes "<h2 id=\"summaries\">Summary-LSAs that are due</h2>\n" ++ areas_text areas

-- the areas with what is due there
abbrev pub list_of : AreaSummariesValue → ℕ × List DueSummary
list_of a = (a.area, a.list)

abbrev pub listed : List AreaSummariesValue → List (ℕ × List DueSummary)
listed areas = map list_of areas

abbrev pub listed_text : AreaSummariesValue → List ℕ
listed_text a = area_text (list_of a)
