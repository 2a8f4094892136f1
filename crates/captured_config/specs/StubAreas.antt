-- Which areas are stub areas, and what they are sent (RFC 2328, 3.6).
use Rattle.std.specs.Prelude.{ℕ, ◌==◌, ◌&&◌, ◌||◌, Bool, false, not, nat_lt, if◌then◌else◌, List, Option, Some, None, is_some, is_none, unwrap_or}
use Rattle.std.specs.List.{list_any, fold}
use Rattle.std.specs.Option.{option_or}
use Rattle.ospf_types.specs.Lsa.{Lsa}
use Rattle.ospf_types.specs.declared.prefix.Prefix.{Prefix}
use Rattle.ospf_types.specs.declared.config.Stub.{Stub}
use Rattle.ospf_types.specs.Inter.{LSInfinity}
use Rattle.lsa_codec.specs.Readers.{prefix_of, metric_of}
use Rattle.captured_config.specs.Lsas.{AreaLsa, is_without_externals}

-- a router of the area has the E-bit clear; the backbone is no stub area
abbrev pub is_stub_area : (area : ℕ) → List AreaLsa → Bool
is_stub_area area lsas = not (area == 0) && list_any (is_without_externals area) lsas

-- ---- what the router advertises into an area (12.4.3)

-- the default route, 0.0.0.0/0
abbrev pub is_default : Option Prefix → Bool
is_default None = false
is_default (Some network) = network.length == 0

-- the metric, if it is below LSInfinity
abbrev pub reachable : Option ℕ → Option ℕ
reachable None = None
reachable (Some metric) = if nat_lt metric LSInfinity then Some metric else None

-- a summary-LSA of the router for a network
abbrev pub is_own_summary : (router : ℕ) → Lsa → Bool
is_own_summary router l = (l.header.kind == 3) && (l.header.router == router)

-- the metric at which it advertises a network
abbrev pub advertised_metric : (router : ℕ) → Lsa → Option ℕ
advertised_metric router l = if is_own_summary router l then reachable (metric_of l.body) else None

-- the metric of a default route
abbrev pub default_route : (router : ℕ) → Lsa → Option ℕ
default_route router l = if is_default (prefix_of l) then advertised_metric router l else None

-- the metric of another network
abbrev pub other_network : (router : ℕ) → Lsa → Option ℕ
other_network router l = if is_default (prefix_of l) then None else advertised_metric router l

-- the metric of a default route into the area
abbrev pub default_metric : (area router : ℕ) → AreaLsa → Option ℕ
default_metric area router x = if x.area == area then default_route router x.lsa else None

-- the last metric of a default route
abbrev pub default_cost : (area router : ℕ) → List AreaLsa → Option ℕ
default_cost area router lsas = fold (λ cost x. option_or (default_metric area router x) cost) None lsas

-- another network is advertised into the area
abbrev pub has_other_summary : (area router : ℕ) → List AreaLsa → Bool
has_other_summary area router lsas = list_any (λ x. (x.area == area) && is_some (other_network router x.lsa)) lsas

-- the settings of a stub area: a default cost that is not captured is taken to be 1, and summaries
-- for networks are sent too, unless there is a default route and nothing else
abbrev pub stub_with : (is_stub_area : Bool) → (cost : Option ℕ) → (has_other_summary : Bool) → Option Stub
stub_with is cost has_other_summary = if is then Some (record { cost = unwrap_or cost 1; summaries = is_none cost || has_other_summary }) else None

abbrev pub stub_of : (area router : ℕ) → List AreaLsa → Option Stub
stub_of area router lsas = stub_with (is_stub_area area lsas) (default_cost area router lsas) (has_other_summary area router lsas)

-- a stub area whose default cost is not captured
abbrev pub is_cost_unknown : (area router : ℕ) → List AreaLsa → Bool
is_cost_unknown area router lsas = is_stub_area area lsas && is_none (default_cost area router lsas)
