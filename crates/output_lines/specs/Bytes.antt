-- The fields in the bytes of a body.
use Rattle.std.specs.Prelude.{ℕ, ◌≤◌, List, length, drop, slice_index}
use Rattle.byteorder.specs.Endian.{big_number}
use Rattle.ospf_types.specs.Lsa.{Tos}
use Rattle.lsa_codec.specs.Faults.{count_field}
use Rattle.lsa_codec.specs.Left.{AreThere}

-- a router-LSA: the fixed part, and as many links as are counted
pub record IsRouterBody (body : List ℕ) : Type 0 where
  pub long : 4 ≤ length body
  pub links : AreThere (count_field body) (drop 4 body)

-- the TOS entry of a link in front, whose second byte is reserved
abbrev pub link_tos_at : List ℕ → Tos
link_tos_at bytes = record { tos = slice_index bytes 0; metric = big_number 2 (drop 2 bytes) }
