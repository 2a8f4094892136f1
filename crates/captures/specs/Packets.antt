-- The packets of a pcapng, each of a whole block.
use Rattle.std.specs.Prelude.{ℕ, ◌+◌, ◌-◌, ◌*◌, ◌==◌, min, Bool, ◌||◌, nat_lt, if◌then◌else◌, List, length, Option, None, Some, Result, Ok, Err}
use Rattle.std.specs.List.{slice_get}
use Rattle.captures.specs.declared.fault.FaultKind.{FaultKind}
use Rattle.captures.specs.declared.fault.FaultKind.TheVariants.{PacketLength, NoInterface, Resolution}
use Rattle.captures.specs.declared.front.Front.{Front}
use Rattle.captures.specs.declared.front.Front.TheVariants.{Captured}
use Rattle.captures.specs.declared.front.TheConstants.{MOST_CAPTURED}
use Rattle.captures.specs.declared.interface.CaptureInterface.{CaptureInterface}
use Rattle.captures.specs.declared.order.Order.{Order}
use Rattle.captures.specs.Numbers.{number_at}
use Rattle.captures.specs.Times.{time_of}

-- more captured bytes than a block has room for, or than a packet may have
abbrev pub is_too_long : ℕ → ℕ → Bool
is_too_long captured room = nat_lt room captured || nat_lt MOST_CAPTURED captured

-- ---- enhanced packets, and obsolete ones: interface, halves of the time, lengths, bytes, options

abbrev pub units_in : Order → List ℕ → ℕ
units_in order block = number_at order 4 12 block * 4294967296 + number_at order 4 16 block

abbrev pub timed_at : Order → CaptureInterface → List ℕ → Option ℕ → Result Front FaultKind
timed_at order interface block None = Err Resolution
timed_at order interface block (Some time) = Ok (Captured (record {
  time = Some time;
  link = interface.link;
  wire_length = number_at order 4 24 block;
  start = 28;
  captured = number_at order 4 20 block;
}) (length block))

abbrev pub timed_in : Order → CaptureInterface → List ℕ → Result Front FaultKind
timed_in order interface block =
    if is_too_long (number_at order 4 20 block) (length block - 32) then Err PacketLength
    else timed_at order interface block (time_of interface.timing (units_in order block))

abbrev pub timed_of : Order → Option CaptureInterface → List ℕ → Result Front FaultKind
timed_of order None block = Err NoInterface
timed_of order (Some interface) block = timed_in order interface block

-- for the interface of a number
abbrev pub timed_front : Order → ℕ → List CaptureInterface → List ℕ → Result Front FaultKind
timed_front order number interfaces block = timed_of order (slice_get interfaces number) block

-- ---- simple packets: the length on the wire, and the bytes

-- the number of captured bytes, which is at most the snap length if that is not 0
abbrev pub snapped : ℕ → ℕ → ℕ
snapped snap_length wire_length = if snap_length == 0 then wire_length else min snap_length wire_length

abbrev pub simple_captured : Order → CaptureInterface → List ℕ → ℕ
simple_captured order interface block = snapped interface.snap_length (number_at order 4 8 block)

abbrev pub simple_in : Order → CaptureInterface → List ℕ → Result Front FaultKind
simple_in order interface block =
    if is_too_long (simple_captured order interface block) (length block - 16) then Err PacketLength
    else Ok (Captured (record {
      time = None;
      link = interface.link;
      wire_length = number_at order 4 8 block;
      start = 12;
      captured = simple_captured order interface block;
    }) (length block))

abbrev pub simple_of : Order → Option CaptureInterface → List ℕ → Result Front FaultKind
simple_of order None block = Err NoInterface
simple_of order (Some interface) block = simple_in order interface block

-- for the first interface
abbrev pub simple_front : Order → List CaptureInterface → List ℕ → Result Front FaultKind
simple_front order interfaces block = simple_of order (slice_get interfaces 0) block
