-- A capture that is read from its first byte to its last.
use Rattle.std.specs.Prelude.{ℕ, zero, suc, ◌≡◌, ◌==◌, ◌^◌, ◌<◌, ◌&&◌, nat_lt, if◌then◌else◌, List, [], ◌∷◌, ◌++◌, length, map, take, drop, Option, Some, Result, Ok, Err}
use Rattle.std.specs.List.{flat_map, AllByRecursion}
use Rattle.captures.specs.declared.fault.FaultKind.{FaultKind}
use Rattle.captures.specs.declared.front.Front.{Front}
use Rattle.captures.specs.declared.front.Front.TheVariants.{Short, Header, Declared, Other, Captured}
use Rattle.captures.specs.declared.pcap.Fraction.{Fraction}
use Rattle.captures.specs.Pcap.{nanoseconds_of}
use Rattle.captures.specs.Reading.{CaptureState, front_of, has_begun, state_behind}
use Rattle.captures.specs.Writing.{FileHeader, file_bytes, FilePacket, IsLegalFilePacket, file_packet_bytes}

-- a packet as it is returned
pub record ShownPacket : Type 0 where
  pub time : Option ℕ
  pub link : ℕ
  pub wire_length : ℕ
  pub bytes : List ℕ

-- the end of the reading: after a part, within one or before the first, or at a fault
pub data End : Type 0 where
  Whole : End
  CutOff : End
  Faulty : FaultKind → End

-- the packets in their order, and how the reading ends
pub record PacketRun : Type 0 where
  pub packets : List ShownPacket
  pub end : End

-- the number of bytes that are skipped
abbrev pub size_of : Front → ℕ
size_of (Short needed) = 0
size_of (Header format size) = size
size_of (Declared interface size) = size
size_of (Other size) = size
size_of (Captured header size) = size

-- the packet in front, if it is one
abbrev pub shown_of : Front → List ℕ → List ShownPacket
shown_of (Short needed) bytes = []
shown_of (Header format size) bytes = []
shown_of (Declared interface size) bytes = []
shown_of (Other size) bytes = []
shown_of (Captured header size) bytes = record {
  time = header.time;
  link = header.link;
  wire_length = header.wire_length;
  bytes = take header.captured (drop header.start bytes);
} ∷ []

abbrev pub with_front : List ShownPacket → PacketRun → PacketRun
with_front packets r = record { packets = packets ++ r.packets; end = r.end }

abbrev pub ends_by : End → PacketRun
ends_by end = record { packets = []; end = end }

-- past a part, if it ends before the input does
abbrev pub go_past : Front → CaptureState → List ℕ → (CaptureState → List ℕ → PacketRun) → PacketRun
go_past front s bytes further =
    if nat_lt (length bytes) (size_of front) then ends_by CutOff
    else with_front (shown_of front bytes) (further (state_behind front s) (drop (size_of front) bytes))

abbrev pub go_on : Result Front FaultKind → CaptureState → List ℕ → (CaptureState → List ℕ → PacketRun) → PacketRun
go_on (Err fault) s bytes further = ends_by (Faulty fault)
go_on (Ok (Short needed)) s bytes further = ends_by (if has_begun s && (length bytes == 0) then Whole else CutOff)
go_on (Ok (Header format size)) s bytes further = go_past (Header format size) s bytes further
go_on (Ok (Declared interface size)) s bytes further = go_past (Declared interface size) s bytes further
go_on (Ok (Other size)) s bytes further = go_past (Other size) s bytes further
go_on (Ok (Captured header size)) s bytes further = go_past (Captured header size) s bytes further

-- the reading of all bytes of an input, from a state on, in at most this number of parts
unfoldable pub run : ℕ → CaptureState → List ℕ → PacketRun
run zero s bytes = ends_by CutOff
run (suc n) s bytes = go_on (front_of s bytes) s bytes (λ t rest. run n t rest)

-- each part has a byte or more, so that there are no more parts than bytes
abbrev pub run_of : CaptureState → List ℕ → PacketRun
run_of s bytes = run (suc (length bytes)) s bytes

-- ---- a whole pcap

abbrev pub pcap_bytes : FileHeader → List FilePacket → List ℕ
pcap_bytes h packets = file_bytes h ++ flat_map (file_packet_bytes h.magic.order) packets

-- the form in which a packet is returned
abbrev pub shown_as : Fraction → ℕ → FilePacket → ShownPacket
shown_as fraction link p = record {
  time = Some (nanoseconds_of fraction p.seconds p.fraction);
  link = link;
  wire_length = p.wire_length;
  bytes = p.bytes;
}

-- each pcap is read as its packets, in their order, and to its end
abbrev pub ReadsFiles : CaptureState → Type 0
ReadsFiles s =
    (h : FileHeader) (packets : List FilePacket) → h.link < 2 ^ 16 → h.high < 2 ^ 16 → AllByRecursion IsLegalFilePacket packets
    → run_of s (pcap_bytes h packets) ≡ record { packets = map (shown_as h.magic.fraction h.link) packets; end = Whole }
