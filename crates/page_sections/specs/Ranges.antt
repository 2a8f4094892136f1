-- The address ranges of the areas, with the networks in them.
use Rattle.std.specs.Prelude.{ℕ, ◌++◌, ◌&&◌, Bool, true, false, List, [], ◌∷◌, Option, Some, None, codes, decimal, length, if◌then◌else◌, ◌==◌, nat_le}
use Rattle.std.specs.List.{concat, filter_map, flat_map, list_any}
use Rattle.ospf_types.specs.Masks.{masked}
use Rattle.ospf_types.specs.Network.{Network}
use Rattle.ospf_types.specs.Text.{address_text, prefix_text}
use Rattle.ospf_types.specs.declared.config.AreaConfig.{AreaConfig}
use Rattle.ospf_types.specs.declared.config.Range.{Range}
use Rattle.ospf_types.specs.declared.entry.PathType.{PathType}
use Rattle.ospf_types.specs.declared.entry.PathType.TheVariants.{Intra}
use Rattle.route_table.specs.declared.table.Item.{Item}
use Rattle.route_table.specs.declared.table.Item.TheVariants as item
use Rattle.page_sections.specs.declared.ranges.RangeNetwork.{RangeNetwork}

-- the inner network is as long as the outer one or longer, and agrees with it in its first bits
abbrev pub is_inside : (outer inner : Network) → Bool
is_inside outer inner = nat_le outer.length inner.length && masked inner.address outer.length == outer.address

abbrev pub is_intra_area : PathType → Bool
is_intra_area Intra = true
is_intra_area _ = false

abbrev pub is_of_area : (area : ℕ) → Option ℕ → Bool
is_of_area area None = false
is_of_area area (Some a) = a == area

-- the cost of an intra-area route of the area; none of anything else
abbrev pub intra_cost_of : (area : ℕ) → Item → Option ℕ
intra_cost_of area (item.Route e) = if is_intra_area e.kind && is_of_area area e.area then Some e.cost else None
intra_cost_of area item.Discard = None

-- the network at this cost, if there is one
abbrev pub at_cost : Network → Option ℕ → Option RangeNetwork
at_cost p None = None
at_cost p (Some cost) = Some (record { network = p; cost = cost })

-- the network with its cost, if it lies in the range, and an intra-area route of the area leads
-- there
abbrev pub counted_in : (area : ℕ) → (range : Network) → Network × Item → Option RangeNetwork
counted_in area range x = if is_inside range x.0 then at_cost x.0 (intra_cost_of area x.1) else None

-- a network, and its cost
abbrev pub network_row : RangeNetwork → List ℕ
network_row n = concat (codes "<li>" ∷ prefix_text n.network ∷ codes " <b>" ∷ decimal n.cost ∷ codes "</b>\n" ∷ [])

-- a list of the networks
abbrev pub some_text : List RangeNetwork → List ℕ
some_text networks = codes "<ul class=\"nets\">\n" ++ (flat_map network_row networks ++ codes "</ul>\n")

-- a list of the networks; nothing where there is none
abbrev pub list_text : List RangeNetwork → List ℕ
list_text networks = if length networks == 0 then [] else some_text networks

-- the number of networks
abbrev pub count_text : ℕ → List ℕ
count_text count =
    if count == 0
    then codes ": no network</h4>\n"
    else (if count == 1 then codes ": 1 network</h4>\n" else concat (codes ": " ∷ decimal count ∷ codes " networks</h4>\n" ∷ []))

-- the number of networks, and each of them
abbrev pub networks_text : List RangeNetwork → List ℕ
networks_text networks = count_text (length networks) ++ list_text networks

-- the text for a range that is advertised to other areas, or is not
abbrev pub advertised_text : Bool → List ℕ
advertised_text true = codes ", advertised"
advertised_text false = codes ", not advertised"

-- the prefix, and the text for its being advertised or not
abbrev pub range_heading_text : Range → List ℕ
range_heading_text range = (codes "<h4>" ++ prefix_text range.prefix) ++ advertised_text range.advertise

-- a range of the area, and the networks of the table in it
abbrev pub range_text : List (Network × Item) → (area : ℕ) → Range → List ℕ
range_text items area range = range_heading_text range ++ networks_text (filter_map (counted_in area range.prefix) items)

abbrev pub is_some_range : List Range → Bool
is_some_range [] = false
is_some_range (range ∷ ranges) = true

abbrev pub has_range : AreaConfig → Bool
has_range a = is_some_range a.ranges

-- an area with its ranges; nothing of an area that has none
abbrev pub area_text : List (Network × Item) → AreaConfig → List ℕ
area_text items a =
    if has_range a
    then concat (codes "<h3>Area " ∷ address_text a.id ∷ codes "</h3>\n" ∷ []) ++ flat_map (range_text items a.id) a.ranges
    else []

-- the areas that have ranges, or that there is none
abbrev pub areas_text : List (Network × Item) → List AreaConfig → List ℕ
areas_text items areas =
    if list_any has_range areas
    then flat_map (area_text items) areas
    else codes "<p>No area has an address range.</p>\n"

-- the heading of the section, and a sentence about its contents
abbrev pub section_text : List ℕ
section_text = concat (
    codes "<h2 id=\"ranges\">Address ranges</h2>\n"
    ∷ codes "<p class=\"quiet\">Each range with the networks in it that the area's own routes lead to, and the cost of each.</p>\n"
    ∷ [])

-- the ranges of all areas
abbrev pub ranges_text : List (Network × Item) → List AreaConfig → List ℕ
ranges_text items areas = section_text ++ areas_text items areas
