-- The content of a captured packet.
use Rattle.std.specs.Prelude.{ℕ, ◌≡◌, ◌==◌, ◌&&◌, not, nat_lt, Bool, false, if◌then◌else◌, List, length, slice_index, Option, Some, None}
use Rattle.packets.specs.declared.link.LinkType.{LinkType}
use Rattle.packets.specs.declared.datagram.Datagram.{Datagram}
use Rattle.packets.specs.declared.datagram_fault.DatagramFault.{DatagramFault}
use Rattle.packets.specs.Links.{link_of_number, Carries}
use Rattle.packets.specs.Layout.{fault_of}
use Rattle.packets.specs.Reading.{IsDatagram}
use Rattle.packets.specs.Kept.{Kept, key_of}
use Rattle.packets.specs.Parts.{part_of}
use Rattle.packets.specs.Taking.{IsFragmentTaken, kept_with, payload_with}
use Rattle.captured_lsas.specs.declared.heard.Heard.{Heard}
use Rattle.captured_lsas.specs.declared.heard.Heard.TheVariants.{Other, Fault, Part, Whole}
use Rattle.captured_lsas.specs.Payloads.{bytes_of}

-- ---- which packets are of OSPF

-- The protocol is the tenth byte of an IPv4 packet. Where it is cut off, it is not known.
abbrev pub is_of_other_protocol : List ℕ → Bool
is_of_other_protocol bytes = nat_lt 9 (length bytes) && not (slice_index bytes 9 == 89)

-- the frame, of the link type with the number, carries the IPv4 packet, and its protocol is OSPF
pub record CarriesOspf (link : ℕ) (frame bytes : List ℕ) : Type 0 where
  pub kind : LinkType
  pub known : link_of_number link ≡ Some kind
  pub carried : Carries kind frame bytes
  pub protocol : is_of_other_protocol bytes ≡ false

-- ---- what a datagram brings, where parts of others are kept

-- it is no fragment
abbrev pub is_whole : Datagram → Bool
is_whole d = (d.offset == 0) && d.is_last

-- the payload of its datagram, if that is whole with it
abbrev pub payload_after : Datagram → List Kept → Option (List ℕ)
payload_after d kept = if is_whole d then Some d.payload.now else payload_with d kept

-- the fragments that are kept afterwards: only fragments change them
abbrev pub kept_after : Datagram → List Kept → List Kept
kept_after d kept = if is_whole d then kept else kept_with d kept

-- for a fragment: the payload is whole exactly if all fragments so far make it whole
abbrev pub IsMade : Datagram → (old new : List Kept) → Option (List ℕ) → Type 0
IsMade d old new payload = is_whole d ≡ false → IsFragmentTaken (key_of d) (part_of d) old new payload

abbrev pub IsPayloadGiven : Datagram → (old new : List Kept) → Heard → Type 0
IsPayloadGiven d old new Other = ⊥
IsPayloadGiven d old new (Fault fault) = ⊥
IsPayloadGiven d old new Part = (payload_after d old ≡ None) × (new ≡ kept_after d old) × IsMade d old new None
IsPayloadGiven d old new (Whole sender payload) = (payload_after d old ≡ Some (bytes_of payload)) × (sender ≡ d.source) × (new ≡ kept_after d old) × IsMade d old new (Some (bytes_of payload))

-- ---- what a captured packet brings

-- an IPv4 packet of OSPF is carried, for which this holds
pub record Carried (link : ℕ) (frame : List ℕ) (P : List ℕ → Type 0) : Type 0 where
  pub bytes : List ℕ
  pub of_ospf : CarriesOspf link frame bytes
  pub holds : P bytes

-- the bytes are a datagram, which brings this
pub record Brings (old new : List Kept) (heard : Heard) (bytes : List ℕ) : Type 0 where
  pub datagram : Datagram
  pub read : IsDatagram bytes datagram
  pub without_fault : fault_of bytes ≡ None
  pub given : IsPayloadGiven datagram old new heard

-- the bytes are no datagram
pub record IsDatagramFaulty (old new : List Kept) (fault : DatagramFault) (bytes : List ℕ) : Type 0 where
  pub first : fault_of bytes ≡ Some fault
  pub unchanged : new ≡ old

-- no IPv4 packet of OSPF is carried
pub record CarriesNone (link : ℕ) (frame : List ℕ) (old new : List Kept) : Type 0 where
  pub none : (bytes : List ℕ) → CarriesOspf link frame bytes → ⊥
  pub unchanged : new ≡ old

abbrev pub IsHeard : ℕ → List ℕ → (old new : List Kept) → Heard → Type 0
IsHeard link frame old new Other = CarriesNone link frame old new
IsHeard link frame old new (Fault fault) = Carried link frame (IsDatagramFaulty old new fault)
IsHeard link frame old new Part = Carried link frame (Brings old new Part)
IsHeard link frame old new (Whole sender payload) = Carried link frame (Brings old new (Whole sender payload))
