-- JSON objects by their members, and what an object is while its members are put there.
use Rattle.std.specs.Prelude.{ℕ, ◌≡◌, ◌++◌, List, [], ◌∷◌, String}
use Rattle.std.specs.declared.alloc.Global.{Global}
use Rattle.hex.specs.Hex.{encode_lower}
use Rattle.serde_json.specs.Data.{Data, number, unsigned, string, object, Members, member, no_members, put}
use Rattle.serde_json.specs.View.{members_view}
use Rattle.serde_json.specs.Written.{compact_text}
use Rattle.serde_json.specs.declared.value.Value.{Value}
use Rattle.ospf_types.specs.Network.{Network}
use Rattle.ospf_types.specs.Text.{address_text, prefix_text}

-- the value without spaces, and a line feed
abbrev pub json_line : Data → List ℕ
json_line value = compact_text value ++ 10 ∷ []

-- a name, and what is under it
abbrev pub JsonMember : Type 0
JsonMember = List ℕ × Data

abbrev pub members_in : List JsonMember → Members
members_in [] = no_members
members_in (m ∷ ms) = member m.0 m.1 (members_in ms)

-- the object with these members, in this order
abbrev pub object_of : List JsonMember → Data
object_of ms = object (members_in ms)

abbrev pub number_data : ℕ → Data
number_data n = number (unsigned n)

-- an address, a Router ID or an Area ID
abbrev pub address_data : ℕ → Data
address_data address = string (address_text address)

abbrev pub network_data : Network → Data
network_data p = string (prefix_text p)

-- bytes, two digits each
abbrev pub hex_data : List ℕ → Data
hex_data bytes = string (encode_lower bytes)

-- ---- for private clauses

-- the member is put in its place by its name, in addition to the members that the object had
abbrev pub PutsMember : (name : List ℕ) (value : Data) (old new : List (String Global × Value)) → Type 0
PutsMember name value old new = members_view new ≡ put name value (members_view old)
