-- Routes and their next hops as JSON. The members of an object ascend by name.
use Rattle.std.specs.Prelude.{ℕ, ◌++◌, List, [], ◌∷◌, Option, Some, None, codes, map}
use Rattle.serde_json.specs.Data.{Data, null, string, array}
use Rattle.serde_json.specs.View.{items_of}
use Rattle.ospf_types.specs.Text.{kind_text}
use Rattle.ospf_types.specs.declared.entry.Entry.{Entry}
use Rattle.ospf_types.specs.declared.hop.NextHop.{NextHop}
use Rattle.ospf_types.specs.declared.hop.NextHop.TheVariants.{Direct, Peer, Router}
use Rattle.ospf_types.specs.declared.hop.Path.{Path}
use Rattle.output_lines.specs.Members.{JsonMember, object_of, number_data, address_data}

-- a next hop of this kind over the interface
abbrev pub interface_members : (hop : List ℕ) (interface : ℕ) → List JsonMember
interface_members hop interface = (codes "hop", string hop) ∷ (codes "interface", number_data interface) ∷ []

abbrev pub hop_members : NextHop → List JsonMember
hop_members (Direct id) = interface_members (codes "direct") id
hop_members (Peer id) = interface_members (codes "peer") id
hop_members (Router id address) = (codes "address", address_data address) ∷ interface_members (codes "router") id

-- the border router, or the AS boundary router, that the path leads to
abbrev pub through_members : Option ℕ → List JsonMember
through_members None = []
through_members (Some router) = (codes "through", address_data router) ∷ []

abbrev pub path_data : Path → Data
path_data path = object_of (hop_members path.hop ++ through_members path.advertiser)

-- the paths in their order
abbrev pub paths_data : List Path → Data
paths_data paths = array (items_of (map path_data paths))

-- the Area ID; an external route has none
abbrev pub area_data : Option ℕ → Data
area_data None = null
area_data (Some area) = address_data area

abbrev pub route_data : Entry → Data
route_data e = object_of (
    (codes "area", area_data e.area)
    ∷ (codes "cost", number_data e.cost)
    ∷ (codes "cost2", number_data e.cost2)
    ∷ (codes "hops", paths_data e.paths)
    ∷ (codes "kind", string (kind_text e.kind))
    ∷ [])
