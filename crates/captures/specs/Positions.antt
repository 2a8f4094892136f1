-- The position in a capture, and the reading from there on.
use Rattle.std.specs.Prelude.{ℕ, ◌≡◌, ◌⊎◌, ◌+◌, ◌-◌, ◌^◌, ◌<◌, min, nat_lt, if◌then◌else◌, List, [], ◌∷◌, ◌++◌, length, drop, Option, Result, MatchResult, MatchOption}
use Rattle.std.specs.Io.KnownBytes.{Consumes, IsAtEnd}
use Rattle.captures.specs.declared.capture.CapturedPacket.{CapturedPacket}
use Rattle.captures.specs.declared.fault.FaultKind.{FaultKind}
use Rattle.captures.specs.Reading.{CaptureState, unread}
use Rattle.captures.specs.declared.reader.PacketHead.{PacketHead}
use Rattle.captures.specs.Runs.{ShownPacket, Whole, CutOff, Faulty, PacketRun, ends_by, with_front, run}
use Rattle.captures.specs.declared.capture_error.CaptureError.{CaptureError}
use Rattle.captures.specs.declared.capture_error.CaptureError.TheVariants.{Fault, Read, Memory}

-- the state of the capture, the number of bytes to skip before the next part, the bytes of the
-- input that were read and not yet skipped, and the place of the first of them in the capture
pub record Position : Type 0 where
  pub state : CaptureState
  pub ahead : ℕ
  pub pending : List ℕ
  pub place : ℕ

-- nothing is read
abbrev pub beginning : Position
beginning = record { state = unread; ahead = 0; pending = []; place = 0 }

-- a place that is so much further; it stops at the last that 64 bits can count
abbrev pub further : ℕ → ℕ → ℕ
further place count = min (place + count) (2 ^ 64 - 1)

-- the reading of all bytes of an input, in at most `limit` parts, after `ahead` bytes are skipped
abbrev pub run_behind : (ahead limit : ℕ) → CaptureState → List ℕ → PacketRun
run_behind ahead limit s bytes = if nat_lt (length bytes) ahead then ends_by CutOff else run limit s (drop ahead bytes)

-- this is read of the bytes from a position on; there are no more parts than bytes
abbrev pub IsPacketRun : Position → List ℕ → PacketRun → Type 0
IsPacketRun p bytes r = (limit : ℕ) → length (drop p.ahead bytes) < limit → run_behind p.ahead limit p.state bytes ≡ r

-- From a position, and the rest of the input, to others. Whatever follows, these packets are the
-- first of it, and those of the new position come next.
pub record GoesOn (old : Position) (before : Option (List ℕ)) (new : Position) (after : Option (List ℕ)) (packets : List ShownPacket) : Type 0 where
  -- the bytes that were read of the input
  pub read : List ℕ
  -- the bytes that were read past
  pub past : List ℕ
  pub taken : Consumes before after read
  pub whole : past ++ new.pending ≡ old.pending ++ read
  pub place : new.place ≡ further old.place (length past)
  pub run : (more : List ℕ) (r : PacketRun) → IsPacketRun new (new.pending ++ more) r → IsPacketRun old (past ++ (new.pending ++ more)) (with_front packets r)

-- the capture has ended after a part
pub record IsAtEnding (p : Position) (left : Option (List ℕ)) : Type 0 where
  pub run : IsPacketRun p [] (ends_by Whole)
  pub none : p.pending ≡ []
  pub ended : IsAtEnd left

-- the input has ended at this place, and with it the capture, within a part or before the first
pub record IsCutOff (p : Position) (left : Option (List ℕ)) (kind : FaultKind) (at : ℕ) : Type 0 where
  pub run : IsPacketRun p p.pending (ends_by CutOff)
  pub ended : IsAtEnd left
  pub of_input : kind ≡ FaultKind.CutOff
  pub place : at ≡ further p.place (length p.pending)

-- the next part, which begins at this place, has this fault, whatever follows
pub record IsFaulty (p : Position) (kind : FaultKind) (at : ℕ) : Type 0 where
  pub run : (more : List ℕ) → IsPacketRun p (p.pending ++ more) (ends_by (Faulty kind))
  pub place : at ≡ p.place

-- the bytes that were read have no whole part: with them alone the capture ends after a part, or
-- within one
abbrev pub IsUnread : Position → Type 0
IsUnread p = IsPacketRun p p.pending (ends_by Whole) ⊎ IsPacketRun p p.pending (ends_by CutOff)

-- the reason why no packet is returned
abbrev pub Stops : CaptureError → Position → Option (List ℕ) → Type 0
Stops (Fault kind place) p left = IsFaulty p kind place ⊎ IsCutOff p left kind place
Stops Read p left = IsUnread p
Stops Memory p left = Unit {0}

-- a packet as it is returned, and its bytes
abbrev pub shown : PacketHead → List ℕ → ShownPacket
shown head bytes = record { time = head.time; link = head.link; wire_length = head.wire_length; bytes = bytes }

abbrev pub shown_packet : CapturedPacket → ShownPacket
shown_packet packet = record { time = packet.time; link = packet.link; wire_length = packet.wire_length; bytes = packet.bytes.now }

-- the result of `next`: the next packet, or that the capture has ended, or the reason why there is
-- none; no byte is lost
abbrev pub ReadsNext : (old : Position) (before : Option (List ℕ)) (new : Position) (after : Option (List ℕ)) (bytes : List ℕ) → Result (Option PacketHead) CaptureError → Type 0
ReadsNext old before new after bytes result =
    MatchResult result
    (λ found. MatchOption found
    (GoesOn old before new after [] × IsAtEnding new after)
    (λ head. GoesOn old before new after (shown head bytes ∷ [])))
    (λ error. GoesOn old before new after [] × Stops error new after)
