-- All that is read was written: no other bytes are read as a packet or an interface.
use Rattle.std.specs.Prelude.{ℕ, ◌≡◌, ◌+◌, ◌^◌, ◌<◌, ◌≤◌, List, ◌++◌, length, drop, Result, Ok, Err}
use Rattle.captures.specs.declared.fault.FaultKind.{FaultKind}
use Rattle.captures.specs.declared.frame.BlockKind.{BlockKind}
use Rattle.captures.specs.declared.front.CaptureFormat.TheVariants as Format
use Rattle.captures.specs.declared.front.Front.{Front}
use Rattle.captures.specs.declared.front.Front.TheVariants.{Short, Header, Declared, Other, Captured}
use Rattle.captures.specs.declared.front.TheConstants.{MOST_CAPTURED}
use Rattle.captures.specs.declared.order.Order.{Order}
use Rattle.captures.specs.declared.pcap.PcapFile.{PcapFile}
use Rattle.captures.specs.Reading.{CaptureState, front_of}
use Rattle.captures.specs.Writing.{FilePacket, IsLegalFilePacket, file_packet_bytes}
use Rattle.captures.specs.WritingBlocks.{block_bytes, IsLegalBlockBody, TimedPacket, IsLegalTimed, interface_body, enhanced_body, obsolete_body, simple_body}

-- an interface or a packet is the first item
abbrev pub IsContent : Result Front FaultKind → Type 0
IsContent (Err fault) = ⊥
IsContent (Ok (Short needed)) = ⊥
IsContent (Ok (Header format size)) = ⊥
IsContent (Ok (Declared interface size)) = Unit {0}
IsContent (Ok (Other size)) = ⊥
IsContent (Ok (Captured header size)) = Unit {0}

-- bytes that are read as a packet of a pcap were written as one
abbrev pub WasFilePacket : CaptureState → List ℕ → Type 0
WasFilePacket s bytes =
    (file : PcapFile) → s.format ≡ Format.Pcap file → IsContent (front_of s bytes)
    → (p : FilePacket) × IsLegalFilePacket p × (bytes ≡ file_packet_bytes file.magic.order p ++ drop (16 + length p.bytes) bytes)

-- ---- a pcapng: the body of a block, by the type

abbrev pub IsInterfaceBody : Order → List ℕ → Type 0
IsInterfaceBody order body =
    (link reserved snap_length : ℕ) × (options : List ℕ) × (link < 2 ^ 16) × (snap_length < 2 ^ 32)
    × (body ≡ interface_body order link reserved snap_length options)

abbrev pub IsEnhancedBody : Order → List ℕ → Type 0
IsEnhancedBody order body = (p : TimedPacket) × IsLegalTimed p × (p.number < 2 ^ 32) × (body ≡ enhanced_body order p)

abbrev pub IsObsoleteBody : Order → List ℕ → Type 0
IsObsoleteBody order body =
    (drops : ℕ) × (p : TimedPacket) × IsLegalTimed p × (p.number < 2 ^ 16) × (body ≡ obsolete_body order drops p)

abbrev pub IsSimpleBody : Order → List ℕ → Type 0
IsSimpleBody order body =
    (wire_length : ℕ) × (packet behind : List ℕ) × (wire_length < 2 ^ 32) × (length packet ≤ MOST_CAPTURED)
    × (body ≡ simple_body order wire_length packet behind)

abbrev pub IsBlockBodyOf : BlockKind → Order → ℕ → List ℕ → Type 0
IsBlockBodyOf BlockKind.Section order type body = ⊥
IsBlockBodyOf BlockKind.Interface order type body = (type ≡ 1) × IsInterfaceBody order body
IsBlockBodyOf BlockKind.Obsolete order type body = (type ≡ 2) × IsObsoleteBody order body
IsBlockBodyOf BlockKind.Simple order type body = (type ≡ 3) × IsSimpleBody order body
IsBlockBodyOf BlockKind.Enhanced order type body = (type ≡ 6) × IsEnhancedBody order body
IsBlockBodyOf BlockKind.Other order type body = ⊥

-- an item that is read as an interface or a packet of a pcapng was written as such a block, in the
-- byte order of the section
abbrev pub WasBlock : CaptureState → List ℕ → Type 0
WasBlock s bytes =
    (order : Order) → s.format ≡ Format.Section order → IsContent (front_of s bytes)
    → (kind : BlockKind) × (type : ℕ) × (body : List ℕ) × IsBlockBodyOf kind order type body × IsLegalBlockBody body
    × (bytes ≡ block_bytes order type body ++ drop (12 + length body) bytes)

-- all that is read was written
pub record WasWritten (s : CaptureState) (bytes : List ℕ) : Type 0 where
  pub file_packet : WasFilePacket s bytes
  pub block : WasBlock s bytes
