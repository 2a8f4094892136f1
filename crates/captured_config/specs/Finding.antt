-- The interfaces and the configuration of a router, by the facts that are kept.
use Rattle.std.specs.Prelude.{ℕ, ◌==◌, ◌&&◌, Bool, false, not, if◌then◌else◌, List, [], ◌∷◌, Option, Some, None, is_none, map}
use Rattle.std.specs.List.{list_any, filter, filter_map, fold}
use Rattle.std.specs.Option.{option_or}
use Rattle.ospf_types.specs.declared.config.AreaConfig.{AreaConfig}
use Rattle.ospf_types.specs.declared.config.Config.{Config}
use Rattle.ospf_types.specs.declared.config.Stub.{Stub}
use Rattle.ospf_types.specs.declared.lsa.Link.{Link}
use Rattle.captured_config.specs.declared.fact.OwnLink.{OwnLink}
use Rattle.captured_config.specs.declared.fact.LinkBack.{LinkBack}
use Rattle.captured_config.specs.declared.fact.LsaFacts.{LsaFacts}
use Rattle.captured_config.specs.declared.found.Found.{Found}
use Rattle.captured_config.specs.Facts.{FactLists, Facts}
use Rattle.captured_config.specs.Interfaces.{is_point_to_point, joins, none_found, with_own}
use Rattle.captured_config.specs.StubAreas.{stub_with}

-- ---- links of an area

abbrev pub own_in : (area : ℕ) → List OwnLink → List Link
own_in area own = filter_map (λ o. if o.area == area then Some o.link else None) own

abbrev pub back_in : (area : ℕ) → List LinkBack → List LinkBack
back_in area back = filter (λ b. b.area == area) back

-- a link back of the neighbour, from an address that one of the router's own stub links joins with
-- this one
abbrev pub leads_back : (own : List Link) (address neighbour : ℕ) → LinkBack → Bool
leads_back own address neighbour b = (b.router == neighbour) && list_any (joins address b.address) own

-- the address of the first, or 0 for none
abbrev pub first_back : (own : List Link) (address neighbour : ℕ) → List LinkBack → ℕ
first_back own address neighbour [] = 0
first_back own address neighbour (b ∷ bs) = if leads_back own address neighbour b then b.address else first_back own address neighbour bs

abbrev pub peer_by : (own : List Link) → List LinkBack → Link → ℕ
peer_by own back l = if is_point_to_point l.kind then first_back own l.detail l.id back else 0

-- ---- interfaces

abbrev pub with_interfaces_by : FactLists → Found → (area : ℕ) → Found
with_interfaces_by f found area = with_own area (peer_by (own_in area f.own) (back_in area f.back)) (own_in area f.own) found

abbrev pub interfaces_by : FactLists → (ids : List ℕ) → Found
interfaces_by f ids = fold (with_interfaces_by f) none_found ids

-- ---- areas

abbrev pub tells_own : (area : ℕ) → LsaFacts → Bool
tells_own area t = (t.area == area) && t.is_own

abbrev pub tells_no_externals : (area : ℕ) → LsaFacts → Bool
tells_no_externals area t = (t.area == area) && t.lacks_externals

abbrev pub tells_other : (area : ℕ) → LsaFacts → Bool
tells_other area t = (t.area == area) && t.has_other_summary

abbrev pub tells_default : (area : ℕ) → LsaFacts → Option ℕ
tells_default area t = if t.area == area then t.default else None

abbrev pub is_stub_area_by : (area : ℕ) → List LsaFacts → Bool
is_stub_area_by area told = not (area == 0) && list_any (tells_no_externals area) told

abbrev pub default_cost_by : (area : ℕ) → List LsaFacts → Option ℕ
default_cost_by area told = fold (λ cost t. option_or (tells_default area t) cost) None told

abbrev pub stub_by : (area : ℕ) → List LsaFacts → Option Stub
stub_by area told = stub_with (is_stub_area_by area told) (default_cost_by area told) (list_any (tells_other area) told)

abbrev pub is_cost_unknown_by : (area : ℕ) → List LsaFacts → Bool
is_cost_unknown_by area told = is_stub_area_by area told && is_none (default_cost_by area told)

abbrev pub area_by : List LsaFacts → (area : ℕ) → AreaConfig
area_by told area = record { id = area; stub = stub_by area told; ranges = [] }

abbrev pub config_by : Facts → (ids : List ℕ) → Config
config_by f ids = record { router = f.router; compat = false; areas = map (area_by f.lists.told) ids }
