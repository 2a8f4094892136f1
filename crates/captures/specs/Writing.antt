-- Captures as they are written, field by field. They are read as they were written.
use Rattle.std.specs.Prelude.{ℕ, ◌≡◌, ◌+◌, ◌*◌, ◌^◌, ◌<◌, ◌≤◌, List, ◌++◌, length, Some, Ok}
use Rattle.byteorder.specs.Endian.{big_bytes, little_bytes}
use Rattle.captures.specs.declared.front.CaptureFormat.{CaptureFormat}
use Rattle.captures.specs.declared.front.Front.TheVariants.{Header, Captured}
use Rattle.captures.specs.declared.front.TheConstants.{MOST_CAPTURED}
use Rattle.captures.specs.declared.order.Order.{Order}
use Rattle.captures.specs.declared.order.Order.TheVariants.{Big, Little}
use Rattle.captures.specs.declared.pcap.Fraction.{Fraction}
use Rattle.captures.specs.declared.pcap.Fraction.TheVariants.{Micro, Nano}
use Rattle.captures.specs.declared.pcap.Magic.{Magic}
use Rattle.captures.specs.declared.pcap.PcapFile.{PcapFile}
use Rattle.captures.specs.Pcap.{nanoseconds_of}
use Rattle.captures.specs.Reading.{CaptureState, front_of}

-- a number in `size` bytes
abbrev pub number_bytes : Order → ℕ → ℕ → List ℕ
number_bytes Big size number = big_bytes size number
number_bytes Little size number = little_bytes size number

-- ---- a pcap

abbrev pub magic_number : Fraction → ℕ
magic_number Micro = 0xA1B2C3D4
magic_number Nano = 0xA1B23C4D

-- the content of the header, in version 2
pub record FileHeader : Type 0 where
  pub magic : Magic
  pub minor : ℕ
  pub reserved : ℕ
  pub snap_length : ℕ
  pub link : ℕ  -- the LINKTYPE_ number
  pub high : ℕ  -- the high 16 bits next to it

abbrev pub file_bytes : FileHeader → List ℕ
file_bytes h =
    number_bytes h.magic.order 4 (magic_number h.magic.fraction)
    ++ number_bytes h.magic.order 2 2
    ++ number_bytes h.magic.order 2 h.minor
    ++ number_bytes h.magic.order 8 h.reserved
    ++ number_bytes h.magic.order 4 h.snap_length
    ++ number_bytes h.magic.order 4 (h.high * 65536 + h.link)

-- the header of a pcap in front is read as it
abbrev pub ReadsFileHeader : CaptureState → List ℕ → Type 0
ReadsFileHeader s bytes =
    (h : FileHeader) (rest : List ℕ) → s.format ≡ CaptureFormat.Unread → h.link < 2 ^ 16 → h.high < 2 ^ 16
    → bytes ≡ file_bytes h ++ rest
    → front_of s bytes ≡ Ok (Header (CaptureFormat.Pcap (record { magic = h.magic; link = h.link })) 24)

pub record FilePacket : Type 0 where
  pub seconds : ℕ
  pub fraction : ℕ
  pub wire_length : ℕ
  pub bytes : List ℕ

abbrev pub file_packet_bytes : Order → FilePacket → List ℕ
file_packet_bytes order p =
    number_bytes order 4 p.seconds
    ++ number_bytes order 4 p.fraction
    ++ number_bytes order 4 (length p.bytes)
    ++ number_bytes order 4 p.wire_length
    ++ p.bytes

pub record IsLegalFilePacket (p : FilePacket) : Type 0 where
  pub seconds : p.seconds < 2 ^ 32
  pub fraction : p.fraction < 2 ^ 32
  pub wire_length : p.wire_length < 2 ^ 32
  pub bytes : length p.bytes ≤ MOST_CAPTURED

-- the packet of a pcap in front is read as it
abbrev pub ReadsFilePacket : CaptureState → List ℕ → Type 0
ReadsFilePacket s bytes =
    (file : PcapFile) (p : FilePacket) (rest : List ℕ) → s.format ≡ CaptureFormat.Pcap file → IsLegalFilePacket p
    → bytes ≡ file_packet_bytes file.magic.order p ++ rest
    → front_of s bytes ≡ Ok (Captured (record {
      time = Some (nanoseconds_of file.magic.fraction p.seconds p.fraction);
      link = file.link;
      wire_length = p.wire_length;
      start = 16;
      captured = length p.bytes;
    }) (16 + length p.bytes))
