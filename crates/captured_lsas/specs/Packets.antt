-- The result of an OSPF packet.
use Rattle.std.specs.Prelude.{ℕ, ◌≡◌, List, [], Option, Some, None}
use Rattle.packets.specs.Updates.{UpdatePiece}
use Rattle.packets.specs.Packets.{packet_fault_of, kind_of_number, kind_field, router_field, area_field, body_field}
use Rattle.packets.specs.declared.kind.PacketKind.{PacketKind}
use Rattle.packets.specs.declared.packet.Packet.{Packet as PacketValue}
use Rattle.packets.specs.declared.fault.PacketFault.{PacketFault}
use Rattle.captured_lsas.specs.declared.recorded.Recorded.{Recorded}
use Rattle.captured_lsas.specs.declared.taken.Taken.{Taken}
use Rattle.captured_lsas.specs.declared.taken.Taken.TheVariants.{Packet, Fault}
use Rattle.captured_lsas.specs.Progress.{CaptureProgress}
use Rattle.captured_lsas.specs.Seconds.{seconds_back, seconds_due, with_time}
use Rattle.captured_lsas.specs.Updates.{pieces_for, with_pieces, StopsInUpdate, AreRecorded}

abbrev pub pieces_of_kind : Option PacketKind → List ℕ → List UpdatePiece
pieces_of_kind None body = []
pieces_of_kind (Some kind) body = pieces_for kind body

-- the LSAs that are in the bytes of a packet
abbrev pub pieces_of_packet : List ℕ → List UpdatePiece
pieces_of_packet bytes = pieces_of_kind (kind_of_number (kind_field bytes)) (body_field bytes)

abbrev pub with_read_packet : CaptureProgress → Option ℕ → List ℕ → CaptureProgress
with_read_packet p time bytes = with_pieces (with_time p time) (area_field bytes) (pieces_of_packet bytes)

abbrev pub unless_faulty : Option PacketFault → (p read : CaptureProgress) → CaptureProgress
unless_faulty None p read = read
unless_faulty (Some fault) p read = p

-- bytes that are not a packet change nothing
abbrev pub with_packet : CaptureProgress → Option ℕ → List ℕ → CaptureProgress
with_packet p time bytes = unless_faulty (packet_fault_of bytes) p (with_read_packet p time bytes)

-- the time and some of the LSAs were taken, and no more
abbrev pub StopsWithin : (old new : CaptureProgress) → Option ℕ → List ℕ → Type 0
StopsWithin old new time bytes = StopsInUpdate (with_time old time) new (area_field bytes) (pieces_of_packet bytes)

-- a packet without a fault, and what is recorded of it
pub record IsPacket (p : CaptureProgress) (time : Option ℕ) (bytes : List ℕ) (kind : PacketKind) (router area back seconds : ℕ) (recorded : List Recorded) : Type 0 where
  pub without_fault : packet_fault_of bytes ≡ None
  pub of_kind : kind_of_number (kind_field bytes) ≡ Some kind
  pub of_router : router ≡ router_field bytes
  pub of_area : area ≡ area_field bytes
  pub goes_back : back ≡ seconds_back p time
  pub waited : seconds ≡ seconds_due p time
  pub each : AreRecorded (with_time p time) (area_field bytes) (pieces_of_packet bytes) recorded

abbrev pub IsPacketTaken : CaptureProgress → Option ℕ → List ℕ → Taken → Type 0
IsPacketTaken p time bytes (Fault fault) = packet_fault_of bytes ≡ Some fault
IsPacketTaken p time bytes (Packet kind router area back seconds recorded) = IsPacket p time bytes kind router area back seconds recorded.items

-- the result for a packet that was read
abbrev pub IsOfPacket : CaptureProgress → Option ℕ → PacketValue → Taken → Type 0
IsOfPacket p time packet (Fault fault) = ⊥
IsOfPacket p time packet (Packet kind router area back seconds recorded) =
    (kind ≡ packet.kind) × (router ≡ packet.router) × (area ≡ packet.area) × (back ≡ seconds_back p time) × (seconds ≡ seconds_due p time) × AreRecorded (with_time p time) packet.area (pieces_for packet.kind packet.body.now) recorded.items
