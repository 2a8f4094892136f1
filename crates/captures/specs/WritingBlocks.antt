-- A pcapng as it is written, block by block. It is read as it was written.
use Rattle.std.specs.Prelude.{ℕ, ◌≡◌, ◌+◌, ◌/◌, ◌%◌, ◌^◌, ◌<◌, ◌≤◌, List, ◌++◌, length, Some, None, Result, Ok}
use Rattle.std.specs.List.{slice_get, AllByRecursion}
use Rattle.captures.specs.declared.fault.FaultKind.{FaultKind}
use Rattle.captures.specs.declared.frame.BlockKind.TheVariants as BlockKind
use Rattle.captures.specs.declared.front.CaptureFormat.{CaptureFormat}
use Rattle.captures.specs.declared.front.Front.{Front}
use Rattle.captures.specs.declared.front.Front.TheVariants.{Header, Declared, Other, Captured}
use Rattle.captures.specs.declared.front.TheConstants.{MOST_CAPTURED}
use Rattle.captures.specs.declared.interface.CaptureInterface.{CaptureInterface}
use Rattle.captures.specs.declared.order.Order.{Order}
use Rattle.captures.specs.Frames.{kind_of_number}
use Rattle.captures.specs.Options.{usual_timing}
use Rattle.captures.specs.Packets.{snapped}
use Rattle.captures.specs.Reading.{CaptureState, front_of}
use Rattle.captures.specs.Times.{time_of}
use Rattle.captures.specs.Writing.{number_bytes}
use Rattle.captures.specs.WritingOptions.{WrittenOption, IsLegalSetting, settings_bytes, IsEnd, told_by}

-- a block of a type
abbrev pub block_bytes : Order → ℕ → List ℕ → List ℕ
block_bytes order type body =
    number_bytes order 4 type
    ++ number_bytes order 4 (12 + length body)
    ++ body
    ++ number_bytes order 4 (12 + length body)

-- filled up to a multiple of 4 bytes, and no longer than a block that is read
pub record IsLegalBlockBody (body : List ℕ) : Type 0 where
  pub filled : length body % 4 ≡ 0
  pub fits : 12 + length body ≤ 1048576

-- a section may begin a capture, or follow another one
abbrev pub MayBeginSection : CaptureFormat → Type 0
MayBeginSection CaptureFormat.Unread = Unit {0}
MayBeginSection (CaptureFormat.Pcap file) = ⊥
MayBeginSection (CaptureFormat.Section order) = Unit {0}

-- the header of a section, of version 1
abbrev pub section_body : Order → (minor size : ℕ) → List ℕ → List ℕ
section_body order minor size options =
    number_bytes order 4 0x1A2B3C4D ++ number_bytes order 2 1 ++ number_bytes order 2 minor ++ number_bytes order 8 size ++ options

-- the header of a section in front is read as it, whatever the byte order before
abbrev pub ReadsSection : CaptureState → List ℕ → Type 0
ReadsSection s bytes =
    (order : Order) (minor size : ℕ) (options rest : List ℕ) → MayBeginSection s.format → IsLegalBlockBody (section_body order minor size options)
    → bytes ≡ block_bytes order 0x0A0D0D0A (section_body order minor size options) ++ rest
    → front_of s bytes ≡ Ok (Header (CaptureFormat.Section order) (12 + length (section_body order minor size options)))

abbrev pub interface_body : Order → (link reserved snap_length : ℕ) → List ℕ → List ℕ
interface_body order link reserved snap_length options =
    number_bytes order 2 link ++ number_bytes order 2 reserved ++ number_bytes order 4 snap_length ++ options

-- the interface in front is read as it, and its timing by its options
abbrev pub ReadsInterface : CaptureState → List ℕ → Type 0
ReadsInterface s bytes =
    (order : Order) (link reserved snap_length : ℕ) (settings : List WrittenOption) (end rest : List ℕ) → s.format ≡ CaptureFormat.Section order
    → link < 2 ^ 16 → snap_length < 2 ^ 32 → AllByRecursion IsLegalSetting settings → IsEnd end
    → let body = interface_body order link reserved snap_length (settings_bytes order settings ++ end) in
    IsLegalBlockBody body
    → bytes ≡ block_bytes order 1 body ++ rest
    → front_of s bytes ≡ Ok (Declared (record { link = link; snap_length = snap_length; timing = told_by order settings usual_timing }) (12 + length body))

-- a packet with a time, which counts units of its interface. Padding and options follow its bytes.
pub record TimedPacket : Type 0 where
  pub number : ℕ  -- that of its interface
  pub units : ℕ
  pub wire_length : ℕ
  pub bytes : List ℕ
  pub behind : List ℕ

pub record IsLegalTimed (p : TimedPacket) : Type 0 where
  pub units : p.units < 2 ^ 64
  pub wire_length : p.wire_length < 2 ^ 32
  pub bytes : length p.bytes ≤ MOST_CAPTURED

abbrev pub timed_body : Order → TimedPacket → List ℕ
timed_body order p =
    number_bytes order 4 (p.units / 4294967296)
    ++ number_bytes order 4 (p.units % 4294967296)
    ++ number_bytes order 4 (length p.bytes)
    ++ number_bytes order 4 p.wire_length
    ++ p.bytes
    ++ p.behind

abbrev pub enhanced_body : Order → TimedPacket → List ℕ
enhanced_body order p = number_bytes order 4 p.number ++ timed_body order p

abbrev pub obsolete_body : Order → (drops : ℕ) → TimedPacket → List ℕ
obsolete_body order drops p = number_bytes order 2 p.number ++ number_bytes order 2 drops ++ timed_body order p

-- the result of reading a packet with a time, of this size in all
abbrev pub timed_as : CaptureInterface → ℕ → TimedPacket → ℕ → Result Front FaultKind
timed_as interface time p size = Ok (Captured (record {
  time = Some time;
  link = interface.link;
  wire_length = p.wire_length;
  start = 28;
  captured = length p.bytes;
}) size)

-- the enhanced packet in front is read as it
abbrev pub ReadsEnhanced : CaptureState → List ℕ → Type 0
ReadsEnhanced s bytes =
    (order : Order) (p : TimedPacket) (interface : CaptureInterface) (time : ℕ) (rest : List ℕ) → s.format ≡ CaptureFormat.Section order
    → IsLegalTimed p → p.number < 2 ^ 32 → slice_get s.interfaces p.number ≡ Some interface → time_of interface.timing p.units ≡ Some time
    → IsLegalBlockBody (enhanced_body order p)
    → bytes ≡ block_bytes order 6 (enhanced_body order p) ++ rest
    → front_of s bytes ≡ timed_as interface time p (12 + length (enhanced_body order p))

-- the obsolete packet in front is read as it
abbrev pub ReadsObsolete : CaptureState → List ℕ → Type 0
ReadsObsolete s bytes =
    (order : Order) (drops : ℕ) (p : TimedPacket) (interface : CaptureInterface) (time : ℕ) (rest : List ℕ) → s.format ≡ CaptureFormat.Section order
    → IsLegalTimed p → p.number < 2 ^ 16 → slice_get s.interfaces p.number ≡ Some interface → time_of interface.timing p.units ≡ Some time
    → IsLegalBlockBody (obsolete_body order drops p)
    → bytes ≡ block_bytes order 2 (obsolete_body order drops p) ++ rest
    → front_of s bytes ≡ timed_as interface time p (12 + length (obsolete_body order drops p))

abbrev pub simple_body : Order → (wire_length : ℕ) → (packet behind : List ℕ) → List ℕ
simple_body order wire_length packet behind = number_bytes order 4 wire_length ++ packet ++ behind

-- the simple packet in front, which is cut to the snap length of the first interface, is read as it
abbrev pub ReadsSimple : CaptureState → List ℕ → Type 0
ReadsSimple s bytes =
    (order : Order) (wire_length : ℕ) (packet behind : List ℕ) (interface : CaptureInterface) (rest : List ℕ) → s.format ≡ CaptureFormat.Section order
    → wire_length < 2 ^ 32 → length packet ≤ MOST_CAPTURED → length packet ≡ snapped interface.snap_length wire_length → slice_get s.interfaces 0 ≡ Some interface
    → IsLegalBlockBody (simple_body order wire_length packet behind)
    → bytes ≡ block_bytes order 3 (simple_body order wire_length packet behind) ++ rest
    → front_of s bytes ≡ Ok (Captured (record {
      time = None;
      link = interface.link;
      wire_length = wire_length;
      start = 12;
      captured = length packet;
    }) (12 + length (simple_body order wire_length packet behind)))

-- a block of another type is skipped, however long it is, and at most 12 of its bytes are needed
abbrev pub PassesOther : CaptureState → List ℕ → Type 0
PassesOther s bytes =
    (order : Order) (type size : ℕ) (rest : List ℕ) → s.format ≡ CaptureFormat.Section order → 12 ≤ length bytes
    → type < 2 ^ 32 → size < 2 ^ 32 → kind_of_number type ≡ BlockKind.Other → size % 4 ≡ 0 → 12 ≤ size
    → bytes ≡ number_bytes order 4 type ++ number_bytes order 4 size ++ rest
    → front_of s bytes ≡ Ok (Other size)
