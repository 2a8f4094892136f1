-- The header of an OSPF packet (RFC 2328, A.3.1), by its bytes.
use Rattle.std.specs.Prelude.{ℕ, ◌==◌, Bool, ◌&&◌, ◌||◌, not, nat_lt, if◌then◌else◌, List, [], ◌∷◌, ◌++◌, length, take, drop, slice_index, Option, Some, None, is_none}
use Rattle.byteorder.specs.Endian.{big_number}
use Rattle.ospf_types.specs.FirstOf.{first_of}
use Rattle.packets.specs.Checksum.{words, ones_sum}
use Rattle.packets.specs.declared.kind.PacketKind.{PacketKind}
use Rattle.packets.specs.declared.kind.PacketKind.TheVariants.{Hello, DatabaseDescription, LinkStateRequest, LinkStateUpdate, LinkStateAcknowledgment}
use Rattle.packets.specs.declared.authentication.Authentication.{Authentication}
use Rattle.packets.specs.declared.authentication.Authentication.TheVariants.{Null, Password, Cryptographic, Other}
use Rattle.packets.specs.declared.fault.PacketFault.{PacketFault}
use Rattle.packets.specs.declared.fault.PacketFault.TheVariants.{Short, Version, Kind, Length, Checksum}

-- ---- the fields

abbrev pub version_field : List ℕ → ℕ
version_field bytes = slice_index bytes 0

abbrev pub kind_field : List ℕ → ℕ
kind_field bytes = slice_index bytes 1

-- in bytes, the header counted
abbrev pub length_field : List ℕ → ℕ
length_field bytes = big_number 2 (drop 2 bytes)

abbrev pub router_field : List ℕ → ℕ
router_field bytes = big_number 4 (drop 4 bytes)

abbrev pub area_field : List ℕ → ℕ
area_field bytes = big_number 4 (drop 8 bytes)

-- AuType (D)
abbrev pub authentication_field : List ℕ → ℕ
authentication_field bytes = big_number 2 (drop 14 bytes)

-- the 64 bits that are AuType's own
abbrev pub authentication_data : List ℕ → List ℕ
authentication_data bytes = take 8 (drop 16 bytes)

-- bytes after the length do not belong to the packet
abbrev pub packet_in : List ℕ → List ℕ
packet_in bytes = take (length_field bytes) bytes

-- what is after the header
abbrev pub body_field : List ℕ → List ℕ
body_field bytes = drop 24 (packet_in bytes)

-- ---- what numbers stand for

abbrev pub kind_of_number : ℕ → Option PacketKind
kind_of_number n =
    if n == 1 then Some Hello else (if n == 2 then Some DatabaseDescription else (if n == 3 then Some LinkStateRequest else (if n == 4 then Some LinkStateUpdate else (if n == 5 then Some LinkStateAcknowledgment else None))))

abbrev pub number_of_kind : PacketKind → ℕ
number_of_kind Hello = 1
number_of_kind DatabaseDescription = 2
number_of_kind LinkStateRequest = 3
number_of_kind LinkStateUpdate = 4
number_of_kind LinkStateAcknowledgment = 5

-- Cryptographic authentication has two reserved bytes, Key ID, the digest's length and a sequence
-- number (D.3).
abbrev pub authentication_of : List ℕ → Authentication
authentication_of bytes =
    if authentication_field bytes == 0 then Null else (if authentication_field bytes == 1 then Password (authentication_data bytes) else (if authentication_field bytes == 2 then Cryptographic (slice_index bytes 18) (slice_index bytes 19) (big_number 4 (drop 20 bytes)) else Other (authentication_field bytes)))

-- ---- the checksum (D.4)

-- the packet without the 64 bits of authentication
abbrev pub covered : List ℕ → List ℕ
covered packet = take 16 packet ++ drop 24 packet

-- the one's complement sum of what the checksum covers, itself included, is all ones
abbrev pub has_right_sum : List ℕ → Bool
has_right_sum packet = ones_sum (words (covered packet)) == 65535

-- with cryptographic authentication the checksum is not looked at
abbrev pub has_wrong_sum : List ℕ → Bool
has_wrong_sum packet = not (authentication_field packet == 2) && not (has_right_sum packet)

-- ---- the faults in their order

-- the packet's length, where this many bytes are there, is less than the header's or more than
-- these
abbrev pub is_wrong_length : ℕ → ℕ → Bool
is_wrong_length size present = nat_lt size 24 || nat_lt present size

unfoldable pub packet_fault_of : List ℕ → Option PacketFault
packet_fault_of bytes = first_of (
    (nat_lt (length bytes) 24, Short)
    ∷ (not (version_field bytes == 2), Version)
    ∷ (is_none (kind_of_number (kind_field bytes)), Kind)
    ∷ (is_wrong_length (length_field bytes) (length bytes), Length)
    ∷ (has_wrong_sum (packet_in bytes), Checksum)
    ∷ [])
