-- The reading of a capture, part by part.
use Rattle.std.specs.Prelude.{ℕ, ◌≡◌, ◌<◌, ◌≤◌, Bool, true, false, List, [], ◌∷◌, ◌++◌, length, take, drop, Result, Ok, Err, MatchResult}
use Rattle.captures.specs.declared.capture.CapturedPacket.{CapturedPacket}
use Rattle.captures.specs.declared.capture.Part.{Part}
use Rattle.captures.specs.declared.fault.FaultKind.{FaultKind}
use Rattle.captures.specs.declared.fault.ReadError.{ReadError}
use Rattle.captures.specs.declared.fault.ReadError.TheVariants.{Fault, Memory}
use Rattle.captures.specs.declared.front.TheConstants.{MOST_CAPTURED}
use Rattle.captures.specs.declared.front.CaptureFormat.{CaptureFormat}
use Rattle.captures.specs.declared.front.CaptureFormat.TheVariants.{Unread, Pcap, Section}
use Rattle.captures.specs.declared.front.Front.{Front}
use Rattle.captures.specs.declared.front.Front.TheVariants.{Short, Header, Declared, Other, Captured}
use Rattle.captures.specs.declared.front.PacketHeader.{PacketHeader}
use Rattle.captures.specs.declared.interface.CaptureInterface.{CaptureInterface}
use Rattle.captures.specs.Blocks.{block_front}
use Rattle.captures.specs.Fronts.{IsSettledBy}
use Rattle.captures.specs.Opening.{opening_front}
use Rattle.captures.specs.Pcap.{packet_front}

-- the state of a capture: its format, and in a section of a pcapng the interfaces
pub record CaptureState : Type 0 where
  pub format : CaptureFormat
  pub interfaces : List CaptureInterface

-- nothing was read
abbrev pub unread : CaptureState
unread = record { format = Unread; interfaces = [] }

abbrev pub is_read : CaptureFormat → Bool
is_read Unread = false
is_read (Pcap file) = true
is_read (Section order) = true

-- a header was read
abbrev pub has_begun : CaptureState → Bool
has_begun s = is_read s.format

abbrev pub front_in : CaptureFormat → List CaptureInterface → List ℕ → Result Front FaultKind
front_in Unread interfaces bytes = opening_front bytes
front_in (Pcap file) interfaces bytes = packet_front file bytes
front_in (Section order) interfaces bytes = block_front order interfaces bytes

-- the item at the start of the bytes
abbrev pub front_of : CaptureState → List ℕ → Result Front FaultKind
front_of s bytes = front_in s.format s.interfaces bytes

-- the packet of a header, with its bytes
pub record IsPacketOf (header : PacketHeader) (all : List ℕ) (packet : CapturedPacket) : Type 0 where
  pub time : packet.time ≡ header.time
  pub link : packet.link ≡ header.link
  pub wire_length : packet.wire_length ≡ header.wire_length
  pub bytes : packet.bytes.now ≡ take header.captured (drop header.start all)

abbrev pub IsPacketPart : PacketHeader → ℕ → List ℕ → Part → Type 0
IsPacketPart header size bytes (Part.More needed) = ⊥
IsPacketPart header size bytes (Part.Skip length) = ⊥
IsPacketPart header size bytes (Part.Packet packet length) = (length ≡ size) × IsPacketOf header bytes packet

-- a part is at least a byte long, a packet is whole and not too long, and no more than 1 MiB is
-- ever needed
abbrev pub IsPartInReach : List ℕ → Part → Type 0
IsPartInReach bytes (Part.More needed) = (length bytes < needed) × (needed ≤ 1048576)
IsPartInReach bytes (Part.Skip size) = 0 < size
IsPartInReach bytes (Part.Packet packet size) = (0 < size) × (size ≤ length bytes) × (length packet.bytes.now ≤ MOST_CAPTURED)

-- bytes that follow do not change the first item, unless it was short and they are enough
abbrev pub IsSteady : CaptureState → List ℕ → Type 0
IsSteady s bytes =
    (more : List ℕ) → IsSettledBy (length (bytes ++ more)) (front_of s bytes) → front_of s (bytes ++ more) ≡ front_of s bytes

-- the state after an item
abbrev pub state_behind : Front → CaptureState → CaptureState
state_behind (Short needed) s = s
state_behind (Header format size) s = record { format = format; interfaces = [] }
state_behind (Declared interface size) s = record s { interfaces = s.interfaces ++ interface ∷ [] }
state_behind (Other size) s = s
state_behind (Captured header size) s = s

-- the part that is returned for an item, if memory does not run out
abbrev pub IsPart : Front → List ℕ → Part → Type 0
IsPart (Short needed) bytes part = part ≡ Part.More needed
IsPart (Header format size) bytes part = part ≡ Part.Skip size
IsPart (Declared interface size) bytes part = part ≡ Part.Skip size
IsPart (Other size) bytes part = part ≡ Part.Skip size
IsPart (Captured header size) bytes part = IsPacketPart header size bytes part

-- memory may run out only if there is one more interface to keep
abbrev pub MayLackMemory : Front → Type 0
MayLackMemory (Short needed) = ⊥
MayLackMemory (Header format size) = ⊥
MayLackMemory (Declared interface size) = Unit {0}
MayLackMemory (Other size) = ⊥
MayLackMemory (Captured header size) = ⊥

-- the answer to an item, and the state after it
abbrev pub IsFrontAnswer : Result Front FaultKind → List ℕ → (old new : CaptureState) → Result Part ReadError → Type 0
IsFrontAnswer (Err fault) bytes old new result = (result ≡ Err (Fault fault)) × (new ≡ old)
IsFrontAnswer (Ok front) bytes old new result =
    MatchResult result
    (λ part. IsPart front bytes part × (new ≡ state_behind front old))
    (λ error. (error ≡ Memory) × MayLackMemory front × (new ≡ old))
