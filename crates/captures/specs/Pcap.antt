-- A pcap: a header of 24 bytes, and then packets, each after a header of 16 bytes.
use Rattle.std.specs.Prelude.{ℕ, ◌+◌, ◌*◌, ◌%◌, ◌==◌, not, nat_lt, if◌then◌else◌, List, length, Option, None, Some, Result, Ok, Err}
use Rattle.captures.specs.declared.fault.FaultKind.{FaultKind}
use Rattle.captures.specs.declared.fault.FaultKind.TheVariants.{Version, PacketLength}
use Rattle.captures.specs.declared.front.Front.{Front}
use Rattle.captures.specs.declared.front.Front.TheVariants.{Short, Header, Captured}
use Rattle.captures.specs.declared.front.CaptureFormat.TheVariants.{Pcap}
use Rattle.captures.specs.declared.front.TheConstants.{MOST_CAPTURED}
use Rattle.captures.specs.declared.order.Order.{Order}
use Rattle.captures.specs.declared.order.Order.TheVariants.{Big, Little}
use Rattle.captures.specs.declared.pcap.Fraction.{Fraction}
use Rattle.captures.specs.declared.pcap.Fraction.TheVariants.{Micro, Nano}
use Rattle.captures.specs.declared.pcap.Magic.{Magic}
use Rattle.captures.specs.declared.pcap.PcapFile.{PcapFile}
use Rattle.captures.specs.Numbers.{number_at}

-- ---- the header: magic number, version, 8 reserved bytes, snap length, link type

-- a magic number says what the fractions of seconds count
abbrev pub fraction_of_number : ℕ → Option Fraction
fraction_of_number number =
    if number == 0xA1B2C3D4 then Some Micro else (if number == 0xA1B23C4D then Some Nano else None)

abbrev pub fraction_of : Order → List ℕ → Option Fraction
fraction_of order bytes = fraction_of_number (number_at order 4 0 bytes)

-- the meaning of the magic number in an order, if it is one there, or this
abbrev pub magic_in_order : Order → Option Fraction → Option Magic → Option Magic
magic_in_order order (Some fraction) other = Some (record { order = order; fraction = fraction })
magic_in_order order None other = other

-- in which order the first 4 bytes are a magic number, and what it says
abbrev pub magic_of : List ℕ → Option Magic
magic_of bytes = magic_in_order Big (fraction_of Big bytes) (magic_in_order Little (fraction_of Little bytes) None)

-- the low 16 bits of the link type are the LINKTYPE_ number
abbrev pub link_of : ℕ → ℕ
link_of field = field % 65536

abbrev pub file_of : Magic → List ℕ → PcapFile
file_of magic bytes = record { magic = magic; link = link_of (number_at magic.order 4 20 bytes) }

abbrev pub file_front : Magic → List ℕ → Result Front FaultKind
file_front magic bytes =
    if nat_lt (length bytes) 24 then Ok (Short 24)
    else (if not (number_at magic.order 2 4 bytes == 2) then Err Version
    else Ok (Header (Pcap (file_of magic bytes)) 24))

-- ---- a packet: seconds, fraction, captured length, length on the wire, and the captured bytes

-- seconds and a fraction, in nanoseconds
abbrev pub nanoseconds_of : Fraction → ℕ → ℕ → ℕ
nanoseconds_of Micro seconds fraction = 1000000000 * seconds + 1000 * fraction
nanoseconds_of Nano seconds fraction = 1000000000 * seconds + fraction

abbrev pub captured_field : PcapFile → List ℕ → ℕ
captured_field file bytes = number_at file.magic.order 4 8 bytes

abbrev pub packet_front : PcapFile → List ℕ → Result Front FaultKind
packet_front file bytes =
    if nat_lt (length bytes) 16 then Ok (Short 16)
    else (if nat_lt MOST_CAPTURED (captured_field file bytes) then Err PacketLength
    else (if nat_lt (length bytes) (16 + captured_field file bytes) then Ok (Short (16 + captured_field file bytes))
    else Ok (Captured (record {
      time = Some (nanoseconds_of file.magic.fraction (number_at file.magic.order 4 0 bytes) (number_at file.magic.order 4 4 bytes));
      link = file.link;
      wire_length = number_at file.magic.order 4 12 bytes;
      start = 16;
      captured = captured_field file bytes;
    }) (16 + captured_field file bytes))))
