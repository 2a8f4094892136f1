-- A pcapng that is read from its first byte to its last.
use Rattle.std.specs.Prelude.{ℕ, ◌≡◌, ◌+◌, ◌%◌, ◌^◌, ◌<◌, ◌≤◌, List, [], ◌∷◌, ◌++◌, length, Option, None, Some}
use Rattle.std.specs.List.{slice_get, AllByRecursion}
use Rattle.captures.specs.declared.frame.BlockKind.TheVariants as BlockKind
use Rattle.captures.specs.declared.front.CaptureFormat.TheVariants as Format
use Rattle.captures.specs.declared.front.TheConstants.{MOST_CAPTURED}
use Rattle.captures.specs.declared.interface.CaptureInterface.{CaptureInterface}
use Rattle.captures.specs.declared.order.Order.{Order}
use Rattle.captures.specs.Frames.{kind_of_number}
use Rattle.captures.specs.Options.{usual_timing}
use Rattle.captures.specs.Packets.{snapped}
use Rattle.captures.specs.Reading.{CaptureState}
use Rattle.captures.specs.Runs.{ShownPacket, Whole, run_of}
use Rattle.captures.specs.Times.{time_of}
use Rattle.captures.specs.WritingBlocks.{block_bytes, IsLegalBlockBody, section_body, interface_body, TimedPacket, IsLegalTimed, enhanced_body, obsolete_body, simple_body}
use Rattle.captures.specs.WritingOptions.{WrittenOption, IsLegalSetting, settings_bytes, IsEnd, told_by}

-- a block, by what it says
pub data Block : Type 0 where
  Begins : Order → (minor size : ℕ) → (options : List ℕ) → Block
  Declares : (link reserved snap_length : ℕ) → List WrittenOption → (end : List ℕ) → Block
  Enhanced : TimedPacket → Block
  Obsolete : (drops : ℕ) → TimedPacket → Block
  Simple : (wire_length : ℕ) → (packet behind : List ℕ) → Block
  Passed : (type : ℕ) → (body : List ℕ) → Block

-- the byte order in a section, and the interfaces that it has declared
pub record KnownSection : Type 0 where
  pub order : Order
  pub interfaces : List CaptureInterface

abbrev pub state_of : KnownSection → CaptureState
state_of k = record { format = Format.Section k.order; interfaces = k.interfaces }

abbrev pub known_behind : KnownSection → Block → KnownSection
known_behind k (Begins order minor size options) = record { order = order; interfaces = [] }
known_behind k (Declares link reserved snap_length settings end) =
    record k { interfaces = k.interfaces ++ record { link = link; snap_length = snap_length; timing = told_by k.order settings usual_timing } ∷ [] }
known_behind k (Enhanced p) = k
known_behind k (Obsolete drops p) = k
known_behind k (Simple wire_length packet behind) = k
known_behind k (Passed type body) = k

abbrev pub bytes_of : Order → Block → List ℕ
bytes_of order (Begins own minor size options) = block_bytes own 0x0A0D0D0A (section_body own minor size options)
bytes_of order (Declares link reserved snap_length settings end) =
    block_bytes order 1 (interface_body order link reserved snap_length (settings_bytes order settings ++ end))
bytes_of order (Enhanced p) = block_bytes order 6 (enhanced_body order p)
bytes_of order (Obsolete drops p) = block_bytes order 2 (obsolete_body order drops p)
bytes_of order (Simple wire_length packet behind) = block_bytes order 3 (simple_body order wire_length packet behind)
bytes_of order (Passed type body) = block_bytes order type body

-- the packet is of an interface that was declared, and its time is since 1970
pub record IsTimed (interfaces : List CaptureInterface) (p : TimedPacket) : Type 0 where
  pub interface : CaptureInterface
  pub declared : slice_get interfaces p.number ≡ Some interface
  pub time : ℕ
  pub since : time_of interface.timing p.units ≡ Some time

-- the packet is of the first interface, and cut to its snap length
pub record IsCutTo (interfaces : List CaptureInterface) (wire : ℕ) (packet : List ℕ) : Type 0 where
  pub interface : CaptureInterface
  pub declared : slice_get interfaces 0 ≡ Some interface
  pub cut : length packet ≡ snapped interface.snap_length wire

abbrev pub IsLegalBlock : KnownSection → Block → Type 0
IsLegalBlock k (Begins order minor size options) = IsLegalBlockBody (section_body order minor size options)
IsLegalBlock k (Declares link reserved snap_length settings end) =
    (link < 2 ^ 16) × (snap_length < 2 ^ 32) × AllByRecursion IsLegalSetting settings × IsEnd end
    × IsLegalBlockBody (interface_body k.order link reserved snap_length (settings_bytes k.order settings ++ end))
IsLegalBlock k (Enhanced p) =
    IsLegalTimed p × (p.number < 2 ^ 32) × IsTimed k.interfaces p × IsLegalBlockBody (enhanced_body k.order p)
IsLegalBlock k (Obsolete drops p) =
    IsLegalTimed p × (p.number < 2 ^ 16) × IsTimed k.interfaces p × IsLegalBlockBody (obsolete_body k.order drops p)
IsLegalBlock k (Simple wire_length packet behind) =
    (wire_length < 2 ^ 32) × (length packet ≤ MOST_CAPTURED) × IsCutTo k.interfaces wire_length packet
    × IsLegalBlockBody (simple_body k.order wire_length packet behind)
IsLegalBlock k (Passed type body) =
    (type < 2 ^ 32) × (kind_of_number type ≡ BlockKind.Other) × (length body % 4 ≡ 0) × (12 + length body < 2 ^ 32)

-- ---- the form in which a block is returned

abbrev pub shown_at : CaptureInterface → TimedPacket → Option ℕ → List ShownPacket
shown_at interface p None = []
shown_at interface p (Some time) =
    record { time = Some time; link = interface.link; wire_length = p.wire_length; bytes = p.bytes } ∷ []

abbrev pub shown_timed : Option CaptureInterface → TimedPacket → List ShownPacket
shown_timed None p = []
shown_timed (Some interface) p = shown_at interface p (time_of interface.timing p.units)

abbrev pub shown_simple : Option CaptureInterface → ℕ → List ℕ → List ShownPacket
shown_simple None wire packet = []
shown_simple (Some interface) wire packet =
    record { time = None; link = interface.link; wire_length = wire; bytes = packet } ∷ []

abbrev pub shown_by : KnownSection → Block → List ShownPacket
shown_by k (Begins order minor size options) = []
shown_by k (Declares link reserved snap_length settings end) = []
shown_by k (Enhanced p) = shown_timed (slice_get k.interfaces p.number) p
shown_by k (Obsolete drops p) = shown_timed (slice_get k.interfaces p.number) p
shown_by k (Simple wire_length packet behind) = shown_simple (slice_get k.interfaces 0) wire_length packet
shown_by k (Passed type body) = []

-- ---- one block after the other

abbrev pub AreLegal : KnownSection → List Block → Type 0
AreLegal k [] = Unit {0}
AreLegal k (b ∷ blocks) = IsLegalBlock k b × AreLegal (known_behind k b) blocks

abbrev pub all_bytes : KnownSection → List Block → List ℕ
all_bytes k [] = []
all_bytes k (b ∷ blocks) = bytes_of k.order b ++ all_bytes (known_behind k b) blocks

abbrev pub all_shown : KnownSection → List Block → List ShownPacket
all_shown k [] = []
all_shown k (b ∷ blocks) = shown_by k b ++ all_shown (known_behind k b) blocks

abbrev pub begun : Order → KnownSection
begun order = record { order = order; interfaces = [] }

-- each pcapng is read as its packets, in their order, and to its end
abbrev pub ReadsSections : CaptureState → Type 0
ReadsSections s =
    (order : Order) (minor size : ℕ) (options : List ℕ) (blocks : List Block) → IsLegalBlockBody (section_body order minor size options) → AreLegal (begun order) blocks
    → run_of s (bytes_of order (Begins order minor size options) ++ all_bytes (begun order) blocks)
    ≡ record { packets = all_shown (begun order) blocks; end = Whole }
