-- The printed text of a field, and the lines that several fields share.
use Rattle.std.specs.Prelude.{ℕ, ◌++◌, ◌==◌, cond, if◌then◌else◌, nat_lt, bit_and, List, [], ◌∷◌, codes, decimal}
use Rattle.hex.specs.Hex.{encode_lower}
use Rattle.ospf_types.specs.declared.lsa.LinkKind.{LinkKind}
use Rattle.ospf_types.specs.declared.lsa.LinkKind.TheVariants.{PointToPoint, Transit, Stub, Virtual}
use Rattle.ospf_types.specs.Lsa.{MaxAge}
use Rattle.ospf_types.specs.Text.{address_text}

-- an address, a mask or a Router ID, after its name
abbrev pub address_line : (name : List ℕ) (address : ℕ) → List ℕ
address_line name address = name ++ codes ": " ++ address_text address ++ codes "\n"

-- a number in decimal, after its name
abbrev pub number_line : (name : List ℕ) (number : ℕ) → List ℕ
number_line name number = name ++ codes ": " ++ decimal number ++ codes "\n"

-- bytes in hexadecimal, after their name
abbrev pub hexadecimal_line : (name bytes : List ℕ) → List ℕ
hexadecimal_line name bytes = name ++ codes ": " ++ encode_lower bytes ++ codes "\n"

-- after an age in seconds, whether it is MaxAge
abbrev pub age_note : ℕ → List ℕ
age_note age = cond (age == MaxAge) (codes " (MaxAge)") (codes "")

-- after a metric of 24 bits, whether it is LSInfinity, that of a destination which is not reached
-- (B)
abbrev pub metric_note : ℕ → List ℕ
metric_note metric = cond (metric == 0xff_ffff) (codes " (LSInfinity)") (codes "")

abbrev pub metric_text : ℕ → List ℕ
metric_text metric = decimal metric ++ metric_note metric

-- the name of a bit after a comma, if the bit is set
abbrev pub bit_text : (byte bit : ℕ) (name : List ℕ) → List ℕ
bit_text byte bit name = cond (nat_lt 0 (bit_and byte bit)) (codes ", " ++ name) (codes "")

-- Options (A.2): the byte, then the bits that are set
abbrev pub options_text : ℕ → List ℕ
options_text byte =
    encode_lower (byte ∷ []) ++ bit_text byte 0x20 (codes "DC-bit") ++ bit_text byte 0x10 (codes "EA-bit") ++ bit_text byte 0x08 (codes "N/P-bit") ++ bit_text byte 0x04 (codes "MC-bit") ++ bit_text byte 0x02 (codes "E-bit")

-- the byte in front of a router-LSA's links (A.4.2), then the bits that are set
abbrev pub router_bits_text : ℕ → List ℕ
router_bits_text byte =
    encode_lower (byte ∷ []) ++ bit_text byte 0x04 (codes "bit V") ++ bit_text byte 0x02 (codes "bit E") ++ bit_text byte 0x01 (codes "bit B")

-- the name of an LS type, 1 to 5 (A.4.1)
abbrev pub type_text : ℕ → List ℕ
type_text kind =
    if kind == 1 then codes "router-LSA" else (if kind == 2 then codes "network-LSA" else (if kind == 3 then codes "summary-LSA for an IP network" else (if kind == 4 then codes "summary-LSA for an AS boundary router" else codes "AS-external-LSA")))

-- what a link leads to (A.4.2)
abbrev pub link_kind_text : LinkKind → List ℕ
link_kind_text PointToPoint = codes "point-to-point connection to another router"
link_kind_text Transit = codes "connection to a transit network"
link_kind_text Stub = codes "connection to a stub network"
link_kind_text Virtual = codes "virtual link"
