-- The routing table, with a box to search it.
use Rattle.std.specs.Prelude.{ℕ, ◌++◌, Bool, true, false, List, [], ◌∷◌, Option, Some, None, codes, decimal, filter, length}
use Rattle.std.specs.List.{concat, flat_map}
use Rattle.ospf_types.specs.Network.{Network}
use Rattle.ospf_types.specs.Text.{address_text, path_text, prefix_text}
use Rattle.ospf_types.specs.declared.entry.Entry.{Entry}
use Rattle.ospf_types.specs.declared.entry.PathType.{PathType}
use Rattle.ospf_types.specs.declared.entry.PathType.TheVariants as route
use Rattle.ospf_types.specs.declared.hop.Path.{Path}
use Rattle.route_table.specs.declared.table.Item.{Item}
use Rattle.route_table.specs.declared.table.Item.TheVariants as item
use Rattle.page_sections.specs.declared.routes.Kind.{Kind}
use Rattle.page_sections.specs.declared.routes.Kind.TheVariants.{Intra, Inter, External1, External2, Discard}

abbrev pub kind_of_route : PathType → Kind
kind_of_route route.Intra = Intra
kind_of_route route.Inter = Inter
kind_of_route route.External1 = External1
kind_of_route route.External2 = External2

-- the kind of an item: a route of some type, or a discard
abbrev pub kind_of_item : Item → Kind
kind_of_item (item.Route e) = kind_of_route e.kind
kind_of_item item.Discard = Discard

-- the two are equal
abbrev pub same_kind : Kind → Kind → Bool
same_kind Intra Intra = true
same_kind Inter Inter = true
same_kind External1 External1 = true
same_kind External2 External2 = true
same_kind Discard Discard = true
same_kind _ _ = false

-- a network with an item of the kind
abbrev pub is_of : Kind → Network × Item → Bool
is_of kind x = same_kind kind (kind_of_item x.1)

abbrev pub kind_text : Kind → List ℕ
kind_text Intra = codes "intra-area"
kind_text Inter = codes "inter-area"
kind_text External1 = codes "type 1 external"
kind_text External2 = codes "type 2 external"
kind_text Discard = codes "discard"

-- the number of networks with an item of the kind
abbrev pub count_text : List (Network × Item) → Kind → List ℕ
count_text items kind = (codes "<span>" ++ (decimal (length (filter (is_of kind) items)) ++ codes " ")) ++ (kind_text kind ++ codes "</span>\n")

-- the numbers of networks of each kind
abbrev pub counts_text : List (Network × Item) → List ℕ
counts_text items = count_text items Intra ++ (count_text items Inter ++ (count_text items External1 ++ (count_text items External2 ++ count_text items Discard)))

-- the Area ID; a dash for an external route
abbrev pub area_cell : Option ℕ → List ℕ
area_cell None = codes "<td>-"
area_cell (Some area) = codes "<td>" ++ address_text area

-- the cost, and the metric of a type 2 external route
abbrev pub costs_text : PathType → (cost cost2 : ℕ) → List ℕ
costs_text route.External2 cost cost2 = codes "<td>" ++ (decimal cost ++ (codes "<td>" ++ decimal cost2))
costs_text _ cost cost2 = codes "<td>" ++ (decimal cost ++ codes "<td>-")

abbrev pub path_line : Path → List ℕ
path_line path = path_text path ++ codes "\n"

-- the paths, one line each
abbrev pub paths_text : List Path → List ℕ
paths_text paths = codes "<td>" ++ flat_map path_line paths

-- the row of a network that has a route
abbrev pub route_text : Network → Entry → List ℕ
route_text p e =
    (codes "<tr><td>" ++ (prefix_text p ++ codes "<td>"))
    ++ (kind_text (kind_of_route e.kind) ++ (area_cell e.area ++ (costs_text e.kind e.cost e.cost2 ++ paths_text e.paths)))

-- the row of a network
abbrev pub row_of : Network → Item → List ℕ
row_of p (item.Route e) = route_text p e
row_of p item.Discard = concat (codes "<tr><td>" ∷ prefix_text p ∷ codes "<td>discard<td>-<td>-<td>-<td>-\n" ∷ [])

abbrev pub row_text : Network × Item → List ℕ
row_text x = row_of x.0 x.1

-- the search box, and the head of the table
abbrev pub table_head_text : List ℕ
table_head_text = concat (
    codes "</p>\n"
    ∷ codes "<p class=\"quiet\">A path is a way and an interface (direct:1, peer:1, or router:1 with the address of the next router); "
    ∷ codes "behind @ stands the router that advertised the destination. "
    ∷ codes "Packets to a network of type discard are dropped: it is an active address range of this router.</p>\n"
    ∷ codes "<p><label>Search <input id=\"search\" type=\"search\" placeholder=\"an IPv4 address, or words\" autocomplete=\"off\" spellcheck=\"false\"></label> <output id=\"found\"></output></p>\n"
    ∷ codes "<table id=\"table\">\n"
    ∷ codes "<thead>\n"
    ∷ codes "<tr><th>Network<th>Type<th>Area<th>Cost<th>Type 2 metric<th>Paths\n"
    ∷ codes "</thead>\n"
    ∷ codes "<tbody>\n"
    ∷ [])

-- the routing table: the number of networks of each kind, a search box, and a row for each network
abbrev pub routes_text : List (Network × Item) → List ℕ
routes_text items =
    codes "<h2 id=\"routes\">Routing table</h2>\n<p class=\"counts\">\n"
    ++ (counts_text items ++ (table_head_text ++ (flat_map row_text items ++ codes "</tbody>\n</table>\n")))
