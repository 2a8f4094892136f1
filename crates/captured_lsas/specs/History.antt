-- The recorded events of all packets, stated by the packets themselves.
use Rattle.std.specs.Prelude.{ℕ, ◌≡◌, ◌<◌, ◌+◌, ◌*◌, ◌^◌, ◌↔◌, false, true, if◌then◌else◌, List, [], ◌∷◌, ◌++◌, Option, Some, None, Ok, Err, map, is_none}
use Rattle.std.specs.List.{All, Contains, filter, flat_map}
use Rattle.ospf_types.specs.declared.lsa.Header.{Header}
use Rattle.lsa_codec.specs.Faults.{fault_of}
use Rattle.packets.specs.Packets.{packet_fault_of, area_field}
use Rattle.packets.specs.Updates.{UpdatePiece}
use Rattle.captured_lsas.specs.declared.name.LsaName.{LsaName}
use Rattle.captured_lsas.specs.declared.options.Options.{Options}
use Rattle.captured_lsas.specs.Newest.{Instance, same_name, is_installed, newest_in, newest_of}
use Rattle.captured_lsas.specs.Progress.{CaptureProgress, start}
use Rattle.captured_lsas.specs.Seconds.{passed, seconds_due}
use Rattle.captured_lsas.specs.Recording.{has_lsa, instance_in}
use Rattle.captured_lsas.specs.Packets.{pieces_of_packet, with_packet}

-- the payload of a datagram, and the time at which it was captured
pub record CapturedPayload : Type 0 where
  pub time : Option ℕ
  pub payload : List ℕ

-- the progress after these, one after the other
unfoldable pub after_all : CaptureProgress → List CapturedPayload → CaptureProgress
after_all p [] = p
after_all p (one ∷ more) = after_all (with_packet p one.time one.payload) more

-- ---- the LSAs that packets bring

-- one, if the bytes are without a fault, and the recording has its database
abbrev pub lsa_of_bytes : Option (List ℕ) → ℕ → List ℕ → List Instance
lsa_of_bytes areas area bytes = if is_none (fault_of bytes) then (if has_lsa areas area bytes then instance_in area bytes ∷ [] else []) else []

abbrev pub lsa_of_piece : Option (List ℕ) → ℕ → UpdatePiece → List Instance
lsa_of_piece areas area (Ok bytes) = lsa_of_bytes areas area bytes
lsa_of_piece areas area (Err fault) = []

abbrev pub lsas_of_pieces : Option (List ℕ) → ℕ → List UpdatePiece → List Instance
lsas_of_pieces areas area pieces = flat_map (lsa_of_piece areas area) pieces

-- a packet with a fault has none
abbrev pub lsas_of_payload : Option (List ℕ) → List ℕ → List Instance
lsas_of_payload areas payload =
    if is_none (packet_fault_of payload) then lsas_of_pieces areas (area_field payload) (pieces_of_packet payload) else []

-- the LSAs of all packets, in their order
abbrev pub lsas_of : Option (List ℕ) → List CapturedPayload → List Instance
lsas_of areas packets = flat_map (λ packet. lsas_of_payload areas packet.payload) packets

-- of these, the instances of one LSA
abbrev pub headers_of : LsaName → List Instance → List Header
headers_of name lsas = map (λ one. one.header) (filter (λ one. same_name name one.name) lsas)

-- the instance is one of these, was installed, and those after it were not
pub record IsNewestOf (headers : List Header) (newest : Header) : Type 0 where
  pub earlier : List Header
  pub later : List Header
  pub whole : headers ≡ earlier ++ newest ∷ later
  pub discarded : All (λ h. is_installed h newest ≡ false) later

-- the newest one, if there is any
abbrev pub IsNewest : List Header → Option Header → Type 0
IsNewest headers None = headers ≡ []
IsNewest headers (Some newest) = IsNewestOf headers newest

-- ---- the time that passes

abbrev pub some_time : Option ℕ → List ℕ
some_time None = []
some_time (Some time) = time ∷ []

-- the times of the packets without a fault, of those that have one
abbrev pub times_of : List CapturedPayload → List ℕ
times_of packets = flat_map (λ packet. if is_none (packet_fault_of packet.payload) then some_time packet.time else []) packets

-- from one time to the next, and so on: where it goes back, none passes
abbrev pub passed_behind : (last : Option ℕ) → List ℕ → ℕ
passed_behind last [] = 0
passed_behind last (time ∷ times) = passed last (Some time) + passed_behind (Some time) times

-- the number of seconds that are given before the LSAs of this packet
abbrev pub seconds_at : CaptureProgress → CapturedPayload → ℕ
seconds_at p packet = if is_none (packet_fault_of packet.payload) then seconds_due p packet.time else 0

unfoldable pub seconds_given : CaptureProgress → List CapturedPayload → ℕ
seconds_given p [] = 0
seconds_given p (one ∷ more) = seconds_at p one + seconds_given (with_packet p one.time one.payload) more

-- After the packets: unless all are kept, the newest instance of an LSA is the result of its own
-- instances, one after the other; none after it is newer. All nanoseconds that passed from packet
-- to packet are in the seconds that were given, except those that wait. A second may be given only
-- if there was an LSA.
pub record IsPacketHistory (options : Options) (areas : Option (List ℕ)) (packets : List CapturedPayload) (p : CaptureProgress) : Type 0 where
  pub options_stay : p.options ≡ options
  pub areas_stay : p.areas ≡ areas
  pub newest : options.keeps_all ≡ false → (name : LsaName) → newest_of name p.newest ≡ newest_in (headers_of name (lsas_of areas packets))
  pub behind : (name : LsaName) → IsNewest (headers_of name (lsas_of areas packets)) (newest_in (headers_of name (lsas_of areas packets)))
  -- the time that passed was given as seconds, or waits; no more than 64 bits hold
  pub time : passed_behind None (times_of packets) < 2 ^ 64 → 1000000000 * seconds_given (start options areas) packets + p.waiting ≡ passed_behind None (times_of packets)
  pub begun : (p.has_begun ≡ true) ↔ ((lsa : Instance) × Contains (lsas_of areas packets) lsa)

-- whichever the packets are
abbrev pub HasHistory : Options → (areas : Option (List ℕ)) → CaptureProgress → Type 0
HasHistory options areas p = (packets : List CapturedPayload) → IsPacketHistory options areas packets (after_all p packets)
