-- The first bytes of a capture.
use Rattle.std.specs.Prelude.{ℕ, ◌==◌, Bool, nat_lt, if◌then◌else◌, List, [], length, Option, None, Some, Result, Ok, Err}
use Rattle.captures.specs.declared.fault.FaultKind.{FaultKind}
use Rattle.captures.specs.declared.fault.FaultKind.TheVariants.{NoCapture}
use Rattle.captures.specs.declared.front.Front.{Front}
use Rattle.captures.specs.declared.front.Front.TheVariants.{Short}
use Rattle.captures.specs.declared.order.Order.TheVariants.{Big}
use Rattle.captures.specs.declared.pcap.Magic.{Magic}
use Rattle.captures.specs.Blocks.{block_front}
use Rattle.captures.specs.Numbers.{number_at}
use Rattle.captures.specs.Pcap.{magic_of, file_front}

-- the type of a section's header, which is the same number in either byte order
abbrev pub is_section : List ℕ → Bool
is_section bytes = number_at Big 4 0 bytes == 0x0A0D0D0A

-- the header of a pcap by its magic number
abbrev pub header_front : Option Magic → List ℕ → Result Front FaultKind
header_front (Some magic) bytes = file_front magic bytes
header_front None bytes = Err NoCapture

-- the header of a section, which has its own byte order, or the header of a pcap
abbrev pub opening_front : List ℕ → Result Front FaultKind
opening_front bytes =
    if nat_lt (length bytes) 4 then Ok (Short 4)
    else (if is_section bytes then block_front Big [] bytes
    else header_front (magic_of bytes) bytes)
