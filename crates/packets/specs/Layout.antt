-- The fields of an IPv4 datagram's header (RFC 791, 3.1), and why bytes are not a datagram.
use Rattle.std.specs.Prelude.{ℕ, ◌+◌, ◌*◌, ◌-◌, ◌/◌, ◌%◌, ◌==◌, ◌&&◌, ◌||◌, not, nat_lt, ◌≤◌, Bool, List, [], ◌∷◌, length, take, drop, slice_index, Option}
use Rattle.byteorder.specs.Endian.{big_number}
use Rattle.ospf_types.specs.FirstOf.{first_of}
use Rattle.packets.specs.declared.datagram_fault.DatagramFault.{DatagramFault}
use Rattle.packets.specs.declared.datagram_fault.DatagramFault.TheVariants.{Header, Length, Fragment}

-- ---- fields

abbrev pub version_field : List ℕ → ℕ
version_field bytes = slice_index bytes 0 / 16

-- in bytes; the field counts words of 4 bytes
abbrev pub header_length : List ℕ → ℕ
header_length bytes = 4 * (slice_index bytes 0 % 16)

-- header and payload, in bytes
abbrev pub total_length : List ℕ → ℕ
total_length bytes = big_number 2 (drop 2 bytes)

abbrev pub identification_field : List ℕ → ℕ
identification_field bytes = big_number 2 (drop 4 bytes)

-- three flags, of which the last says that more fragments follow, and 13 bits of offset
abbrev pub fragment_field : List ℕ → ℕ
fragment_field bytes = big_number 2 (drop 6 bytes)

abbrev pub has_more : List ℕ → Bool
has_more bytes = fragment_field bytes / 8192 % 2 == 1

-- in bytes; the field counts blocks of 8 bytes
abbrev pub offset_field : List ℕ → ℕ
offset_field bytes = 8 * (fragment_field bytes % 8192)

abbrev pub protocol_field : List ℕ → ℕ
protocol_field bytes = slice_index bytes 9

abbrev pub source_field : List ℕ → ℕ
source_field bytes = big_number 4 (drop 12 bytes)

abbrev pub destination_field : List ℕ → ℕ
destination_field bytes = big_number 4 (drop 16 bytes)

abbrev pub payload_length : List ℕ → ℕ
payload_length bytes = total_length bytes - header_length bytes

-- what is after the header, up to the total length
abbrev pub payload_field : List ℕ → List ℕ
payload_field bytes = take (payload_length bytes) (drop (header_length bytes) bytes)

-- header and payload lie in the bytes, and the payload in the longest datagram
pub record FitsDatagram (bytes : List ℕ) : Type 0 where
  pub header : 20 ≤ header_length bytes
  pub total : header_length bytes ≤ total_length bytes
  pub whole : total_length bytes ≤ length bytes
  pub ends : offset_field bytes + payload_length bytes ≤ 65535

-- ---- faults

-- the first 20 bytes are not whole, another version, or a header that is shorter or is cut off
abbrev pub has_wrong_header : List ℕ → Bool
has_wrong_header bytes = nat_lt (length bytes) 20 || not (version_field bytes == 4) || nat_lt (header_length bytes) 20 || nat_lt (length bytes) (header_length bytes)

-- the total length is less than the header's, or bytes are missing at the end
abbrev pub has_wrong_length : List ℕ → Bool
has_wrong_length bytes = nat_lt (total_length bytes) (header_length bytes) || nat_lt (length bytes) (total_length bytes)

-- not the last, and no whole blocks, or one that ends past the longest datagram
abbrev pub is_wrong_fragment : List ℕ → Bool
is_wrong_fragment bytes = (has_more bytes && not (payload_length bytes % 8 == 0)) || nat_lt 65535 (offset_field bytes + payload_length bytes)

-- the first fault of the bytes
unfoldable pub fault_of : List ℕ → Option DatagramFault
fault_of bytes = first_of (
    (has_wrong_header bytes, Header)
    ∷ (has_wrong_length bytes, Length)
    ∷ (is_wrong_fragment bytes, Fragment)
    ∷ [])
