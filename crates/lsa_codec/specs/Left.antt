-- The bytes that a walk over the records of a body has left.
use Rattle.std.specs.Prelude.{ℕ, ◌≡◌, List, length, map}
use Rattle.ospf_types.specs.declared.lsa.Link.{Link}
use Rattle.lsa_codec.specs.Faults.{walk}
use Rattle.lsa_codec.specs.Decoding.{link_of, router_id_at, records_met}
use Rattle.lsa_codec.specs.Readers.{without_tos}

-- this many links lie whole in the bytes
abbrev pub AreThere : ℕ → List ℕ → Type 0
AreThere count bytes = length (walk count bytes).met ≡ count

-- this many links, each without its TOS entries
abbrev pub links_left : ℕ → List ℕ → List Link
links_left count bytes = map without_tos (map link_of (walk count bytes).met)

-- Router IDs up to the end of the bytes
abbrev pub routers_left : List ℕ → List ℕ
routers_left bytes = records_met router_id_at 4 bytes
