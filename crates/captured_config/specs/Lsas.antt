-- The LSAs of a capture that show a router's configuration.
use Rattle.std.specs.Prelude.{ℕ, ◌==◌, ◌&&◌, ◌||◌, ◌++◌, Bool, if◌then◌else◌, List, [], ◌∷◌, map, bit_and}
use Rattle.std.specs.List.{list_any, flat_map}
use Rattle.ospf_types.specs.Lsa.{Lsa}
use Rattle.ospf_types.specs.declared.lsa.Link.{Link}
use Rattle.lsa_codec.specs.Readers.{links_of, without_tos}

-- an LSA of an area's database
pub record AreaLsa : Type 0 where
  pub area : ℕ
  pub lsa : Lsa

abbrev pub lsa_in : (area : ℕ) → Lsa → AreaLsa
lsa_in area l = record { area = area; lsa = l }

-- the Router ID, and the LSAs that count, each with its area, in the order in which they came
pub record Captured : Type 0 where
  pub router : ℕ
  pub lsas : List AreaLsa

-- each router-LSA counts, and each summary-LSA of the router for a network
abbrev pub is_counted : (router : ℕ) → Lsa → Bool
is_counted router l = (l.header.kind == 1) || ((l.header.kind == 3) && (l.header.router == router))

-- the LSA is noted if it counts
abbrev pub with_lsa : Captured → (area : ℕ) → Lsa → Captured
with_lsa c area l = if is_counted c.router l then record c { lsas = c.lsas ++ lsa_in area l ∷ [] } else c

-- ---- router-LSAs

abbrev pub is_own_router_lsa : (router : ℕ) → Lsa → Bool
is_own_router_lsa router l = (l.header.kind == 1) && (l.header.router == router)

-- a router-LSA of the router in the area
abbrev pub is_router_lsa_of : (area router : ℕ) → AreaLsa → Bool
is_router_lsa_of area router x = (x.area == area) && is_own_router_lsa router x.lsa

-- the router has a router-LSA in the area
abbrev pub has_router_lsa : (area router : ℕ) → List AreaLsa → Bool
has_router_lsa area router lsas = list_any (is_router_lsa_of area router) lsas

-- a router-LSA with the E-bit of its Options clear (12.1.2)
abbrev pub lacks_externals : Lsa → Bool
lacks_externals l = (l.header.kind == 1) && (bit_and l.header.options 2 == 0)

-- such a router-LSA in the area
abbrev pub is_without_externals : (area : ℕ) → AreaLsa → Bool
is_without_externals area x = (x.area == area) && lacks_externals x.lsa

-- the links of an LSA
abbrev pub links_within : Lsa → List Link
links_within l = map without_tos (links_of l.body)

-- the links of an LSA, if it is a router-LSA of the router in the area
abbrev pub links_from : (area router : ℕ) → AreaLsa → List Link
links_from area router x = if is_router_lsa_of area router x then links_within x.lsa else []

-- the links of the router-LSAs of the router in the area, in their order
abbrev pub links_in : (area router : ℕ) → List AreaLsa → List Link
links_in area router lsas = flat_map (links_from area router) lsas
