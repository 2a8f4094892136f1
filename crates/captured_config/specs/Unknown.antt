-- The printed text about a configuration that a capture does not show.
use Rattle.std.specs.Prelude.{ℕ, ◌++◌, Bool, not, nat_lt, if◌then◌else◌, List, [], length, codes}
use Rattle.std.specs.List.{flat_map, list_any}
use Rattle.ospf_types.specs.Text.{address_text}
use Rattle.captured_config.specs.Areas.{ascending}
use Rattle.captured_config.specs.Lsas.{Captured, has_router_lsa}
use Rattle.captured_config.specs.StubAreas.{is_cost_unknown}
use Rattle.captured_config.specs.Interfaces.{interfaces_in}
use Rattle.captured_config.specs.declared.found.Found.{Found}
use Rattle.captured_config.specs.Facts.{Facts}
use Rattle.captured_config.specs.Finding.{interfaces_by, is_cost_unknown_by, tells_own}

-- a line, if it is wanted
abbrev pub line_if : Bool → List ℕ → List ℕ
line_if told line = if told then line else []

abbrev pub no_interface_line : (router area : ℕ) → List ℕ
no_interface_line router area =
    codes "abr: area " ++ address_text area ++ codes ": no router-LSA of " ++ address_text router ++ codes ", so it has no interface there\n"

abbrev pub unknown_cost_line : (area : ℕ) → List ℕ
unknown_cost_line area =
    codes "abr: area " ++ address_text area ++ codes ": a stub area whose default cost is not in the capture, taken to be 1\n"

abbrev pub no_ranges_line : List ℕ
no_ranges_line = codes "abr: address ranges are not in a capture: there are none in the recording\n"

abbrev pub left_out_line : List ℕ
left_out_line = codes "abr: more than 255 interfaces: the others are left out\n"

-- the lines of one area; they depend on the router having a router-LSA there, and on its default
-- cost being unknown
abbrev pub area_lines_with : (router area : ℕ) → (has_router_lsa is_cost_unknown : Bool) → List ℕ
area_lines_with router area has_router_lsa is_cost_unknown =
    line_if (not has_router_lsa) (no_interface_line router area) ++ line_if is_cost_unknown (unknown_cost_line area)

abbrev pub area_lines : Captured → (area : ℕ) → List ℕ
area_lines c area = area_lines_with c.router area (has_router_lsa area c.router c.lsas) (is_cost_unknown area c.router c.lsas)

-- the lines about ranges, which only a router with several areas has, and about interfaces
abbrev pub router_lines : (ids : List ℕ) → Found → List ℕ
router_lines ids found = line_if (nat_lt 1 (length ids)) no_ranges_line ++ line_if found.left_out left_out_line

-- the lines about each of these areas, and about the router
abbrev pub unknown_with : Captured → (ids : List ℕ) → List ℕ
unknown_with c ids = flat_map (area_lines c) ids ++ router_lines ids (interfaces_in c.router c.lsas ids)

abbrev pub unknown_text : Captured → (areas : List ℕ) → List ℕ
unknown_text c areas = unknown_with c (ascending areas)

-- ---- by the facts that are kept

abbrev pub area_lines_by : Facts → (area : ℕ) → List ℕ
area_lines_by f area = area_lines_with f.router area (list_any (tells_own area) f.lists.told) (is_cost_unknown_by area f.lists.told)

abbrev pub unknown_by : Facts → (ids : List ℕ) → List ℕ
unknown_by f ids = flat_map (area_lines_by f) ids ++ router_lines ids (interfaces_by f.lists ids)
