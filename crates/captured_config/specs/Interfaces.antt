-- The interfaces of a router, by the links of router-LSAs (RFC 2328, 12.4.1).
use Rattle.std.specs.Prelude.{ℕ, ◌+◌, ◌==◌, ◌&&◌, ◌||◌, ◌++◌, Bool, true, false, not, nat_le, if◌then◌else◌, List, [], ◌∷◌, length, bit_and}
use Rattle.std.specs.List.{list_any, fold}
use Rattle.ospf_types.specs.declared.config.Interface.{Interface}
use Rattle.ospf_types.specs.declared.lsa.Link.{Link}
use Rattle.ospf_types.specs.declared.lsa.LinkKind.{LinkKind}
use Rattle.ospf_types.specs.declared.lsa.LinkKind.TheVariants as kind
use Rattle.captured_config.specs.declared.found.Found.{Found}
use Rattle.captured_config.specs.Lsas.{AreaLsa, links_in}

-- ---- links

abbrev pub is_point_to_point : LinkKind → Bool
is_point_to_point kind.PointToPoint = true
is_point_to_point kind.Transit = false
is_point_to_point kind.Stub = false
is_point_to_point kind.Virtual = false

-- its Link Data is the address of an interface that has neighbours
abbrev pub is_attached : LinkKind → Bool
is_attached kind.PointToPoint = true
is_attached kind.Transit = true
is_attached kind.Stub = false
is_attached kind.Virtual = false

abbrev pub is_stub : LinkKind → Bool
is_stub kind.PointToPoint = false
is_stub kind.Transit = false
is_stub kind.Stub = true
is_stub kind.Virtual = false

-- the address lies in the network of a stub link: its Link ID, and its Link Data as the mask
abbrev pub lies_in : (address : ℕ) → Link → Bool
lies_in address l = bit_and address l.detail == bit_and l.id l.detail

-- ---- the address of a neighbour (12.4.1.1)

-- a stub link for a point-to-point link: to the host at its other end, or to a network with both
-- ends in it
abbrev pub joins : (address peer : ℕ) → Link → Bool
joins address peer l = is_stub l.kind && (lies_in peer l && (lies_in address l || (l.detail == 4294967295)))

-- the neighbour's link back to the router, from an address that one of the router's own stub links
-- joins with this one
abbrev pub is_link_back : (router : ℕ) (own : List Link) (address : ℕ) → Link → Bool
is_link_back router own address l = is_point_to_point l.kind && ((l.id == router) && list_any (joins address l.detail) own)

-- the address that the first link back begins at, or 0 for none
abbrev pub link_back : (router : ℕ) (own : List Link) (address : ℕ) → List Link → ℕ
link_back router own address [] = 0
link_back router own address (l ∷ ls) = if is_link_back router own address l then l.detail else link_back router own address ls

-- the address of the neighbour at the other end of a point-to-point link, or 0 for none
abbrev pub peer_of : (area router : ℕ) → List AreaLsa → (own : List Link) → Link → ℕ
peer_of area router lsas own l = if is_point_to_point l.kind then link_back router own l.detail (links_in area l.id lsas) else 0

-- ---- interfaces

abbrev pub none_found : Found
none_found = record { interfaces = []; left_out = false }

abbrev pub interface_at : (area address peer : ℕ) → Interface
interface_at area address peer = record { area = area; address = address; peer = peer; up = true }

-- a recording has 255 interfaces at most
abbrev pub is_full : Found → Bool
is_full f = nat_le 255 (length f.interfaces)

-- one more interface, with the next number; it is left out if there are 255
abbrev pub with_interface : Found → Interface → Found
with_interface f i = if is_full f then record f { left_out = true } else record f { interfaces = f.interfaces ++ (length f.interfaces + 1, i) ∷ [] }

-- an interface of the area has the address
abbrev pub has_address : (area address : ℕ) → Found → Bool
has_address area address f = list_any (λ x. (x.1.area == area) && (x.1.address == address)) f.interfaces

-- a link with an address that no interface of the area has yet
abbrev pub is_new : (area : ℕ) → Found → Link → Bool
is_new area f l = is_attached l.kind && not (has_address area l.detail f)

-- the interface for an address of the router, with its neighbour on a point-to-point link
abbrev pub interface_of : (area : ℕ) → (peer : Link → ℕ) → Link → Interface
interface_of area peer l = interface_at area l.detail (peer l)

abbrev pub with_link : (area : ℕ) → (peer : Link → ℕ) → Found → Link → Found
with_link area peer f l = if is_new area f l then with_interface f (interface_of area peer l) else f

-- one for each address
abbrev pub with_links : (area : ℕ) → (peer : Link → ℕ) → (own : List Link) → Found → Found
with_links area peer own f = fold (with_link area peer) f own

-- the address of an interface of the area, or its neighbour's, lies in the network of the stub link
abbrev pub is_on : (area : ℕ) → Link → Interface → Bool
is_on area l i = (i.area == area) && (lies_in i.address l || (not (i.peer == 0) && lies_in i.peer l))

-- an interface leads to the network of the stub link
abbrev pub reaches : (area : ℕ) → Link → Found → Bool
reaches area l f = list_any (λ x. is_on area l x.1) f.interfaces

-- a stub link to whose network no interface leads yet
abbrev pub is_alone : (area : ℕ) → Found → Link → Bool
is_alone area f l = is_stub l.kind && not (reaches area l f)

-- An interface without neighbours. A capture shows its network, and not its address.
abbrev pub with_stub_link : (area : ℕ) → Found → Link → Found
with_stub_link area f l = if is_alone area f l then with_interface f (interface_at area l.id 0) else f

abbrev pub with_stub_links : (area : ℕ) → (own : List Link) → Found → Found
with_stub_links area own f = fold (with_stub_link area) f own

-- those with an address of the router, followed by those of stub links
abbrev pub with_own : (area : ℕ) → (peer : Link → ℕ) → (own : List Link) → Found → Found
with_own area peer own f = with_stub_links area own (with_links area peer own f)

-- those of an area, by the links of the router in it
abbrev pub with_area_links : (area router : ℕ) → List AreaLsa → (own : List Link) → Found → Found
with_area_links area router lsas own f = with_own area (peer_of area router lsas own) own f

abbrev pub with_interfaces_of : (router : ℕ) → List AreaLsa → Found → (area : ℕ) → Found
with_interfaces_of router lsas f area = with_area_links area router lsas (links_in area router lsas) f

-- those of these areas, one after the other
abbrev pub interfaces_in : (router : ℕ) → List AreaLsa → (ids : List ℕ) → Found
interfaces_in router lsas ids = fold (with_interfaces_of router lsas) none_found ids
