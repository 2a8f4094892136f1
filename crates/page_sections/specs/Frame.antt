-- The beginning and the end of the page, and the last changes.
use Rattle.std.specs.Prelude.{ℕ, ◌++◌, Bool, true, false, List, [], ◌∷◌, codes, decimal}
use Rattle.std.specs.List.{concat}
use Rattle.ospf_types.specs.Text.{address_text}
use Rattle.page_sections.specs.Style.{style_text}
use Rattle.page_sections.specs.Script.{script_text}

-- the first lines for a browser; the policy has it load nothing from elsewhere
abbrev pub policy_text : List ℕ
policy_text = concat (
    codes "<!DOCTYPE html>\n<html lang=\"en\">\n<head>\n<meta charset=\"utf-8\">\n"
    ∷ codes "<meta name=\"viewport\" content=\"width=device-width, initial-scale=1\">\n"
    ∷ codes "<meta http-equiv=\"Content-Security-Policy\" content=\"default-src 'none'; style-src 'unsafe-inline'; script-src 'unsafe-inline'\">\n"
    ∷ [])

-- all of the head but the style
abbrev pub head_text : (router : ℕ) → List ℕ
head_text router = policy_text ++ concat (codes "<title>Router " ∷ address_text router ∷ codes "</title>\n" ∷ [])

-- the style, and the end of the head
abbrev pub styles_text : List ℕ
styles_text = codes "<style>\n" ++ (style_text ++ codes "</style>\n</head>\n<body>\n")

-- the heading of the page
abbrev pub title_text : (router : ℕ) → List ℕ
title_text router = concat (codes "<h1>Router " ∷ address_text router ∷ codes "</h1>\n" ∷ [])

-- the subject of the page: the router at this serial
abbrev pub about_text : (serial : ℕ) → List ℕ
about_text serial = concat (
    codes "<p>What this router (OSPF, RFC 2328) has after event number "
    ∷ decimal serial
    ∷ codes " of its recording: the graph of each area with the shortest-path tree, the address ranges, the routing table, the summary-LSAs that are due, and what changed last.</p>\n"
    ∷ [])

-- links to the sections
abbrev pub sections_text : List ℕ
sections_text = concat (
    codes "<nav>\n"
    ∷ codes "<a href=\"#areas\">Areas</a>\n"
    ∷ codes "<a href=\"#ranges\">Address ranges</a>\n"
    ∷ codes "<a href=\"#routes\">Routing table</a>\n"
    ∷ codes "<a href=\"#summaries\">Summary-LSAs</a>\n"
    ∷ codes "<a href=\"#changes\">Last changes</a>\n"
    ∷ codes "</nav>\n"
    ∷ [])

-- the beginning of the page
abbrev pub beginning_text : (router serial : ℕ) → List ℕ
beginning_text router serial = head_text router ++ (styles_text ++ (title_text router ++ (about_text serial ++ sections_text)))

-- the text before the lines with the last changes, which says so if there are none
abbrev pub changes_beginning_text : (is_empty : Bool) → List ℕ
changes_beginning_text true = codes "<h2 id=\"changes\">Last changes</h2>\n<p>Nothing changed.</p>\n"
changes_beginning_text false = codes "<h2 id=\"changes\">Last changes</h2>\n<pre>"

-- the text after them
abbrev pub changes_end_text : (is_empty : Bool) → List ℕ
changes_end_text true = []
changes_end_text false = codes "</pre>\n"

-- the last changes
abbrev pub changes_text : (lines : List ℕ) → List ℕ
changes_text [] = changes_beginning_text true
changes_text (c ∷ cs) = changes_beginning_text false ++ ((c ∷ cs) ++ changes_end_text false)

-- the end of the page, with its script
abbrev pub end_text : List ℕ
end_text = codes "<script>\n" ++ (script_text ++ codes "</script>\n</body>\n</html>\n")
