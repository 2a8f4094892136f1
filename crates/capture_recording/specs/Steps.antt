-- The packets of a capture, one after the other: what each brings, and what is taken of it.
use Rattle.std.specs.Prelude.{ℕ, ◌≡◌, List, [], ◌∷◌, map, Option, None, Some}
use Rattle.captures.specs.Runs.{ShownPacket}
use Rattle.packets.specs.Kept.{Kept}
use Rattle.captured_lsas.specs.declared.heard.Heard.{Heard}
use Rattle.captured_lsas.specs.declared.heard.Heard.TheVariants.{Other, Fault, Part, Whole}
use Rattle.capture_recording.specs.Rules.{Rules}
use Rattle.captured_lsas.specs.declared.taken.Taken.{Taken}
use Rattle.captured_lsas.specs.Hearing.{IsHeard}
use Rattle.captured_lsas.specs.Packets.{IsPacketTaken, with_packet}
use Rattle.captured_lsas.specs.Payloads.{bytes_of}
use Rattle.captured_lsas.specs.Progress.{CaptureProgress, start}

-- a captured packet, what it brings, and what is taken of the payload that is whole with it
pub record PacketStep : Type 0 where
  pub packet : ShownPacket
  pub heard : Heard
  pub taken : Option Taken

abbrev pub packets_of : List PacketStep → List ShownPacket
packets_of steps = map (λ step. step.packet) steps

-- the datagrams that are not whole, and what was recorded so far
pub record Past : Type 0 where
  pub parts : List Kept
  pub progress : CaptureProgress

-- this is taken of a payload
abbrev pub IsSomeTaken : CaptureProgress → Option ℕ → List ℕ → Option Taken → Type 0
IsSomeTaken p time payload None = ⊥
IsSomeTaken p time payload (Some taken) = IsPacketTaken p time payload taken

-- only a payload that is whole is taken
abbrev pub IsTakenOf : (old new : CaptureProgress) → Option ℕ → Heard → Option Taken → Type 0
IsTakenOf old new time Other taken = (taken ≡ None) × (new ≡ old)
IsTakenOf old new time (Fault fault) taken = (taken ≡ None) × (new ≡ old)
IsTakenOf old new time Part taken = (taken ≡ None) × (new ≡ old)
IsTakenOf old new time (Whole sender payload) taken = IsSomeTaken old time (bytes_of payload) taken × (new ≡ with_packet old time (bytes_of payload))

-- the packet comes to this
pub record IsStep (old : Past) (step : PacketStep) (new : Past) : Type 0 where
  pub hears : IsHeard step.packet.link step.packet.bytes old.parts new.parts step.heard
  pub takes : IsTakenOf old.progress new.progress step.packet.time step.heard step.taken

-- each packet comes to this, after those before it
unfoldable pub AreStepsTo : (old : Past) → List PacketStep → (new : Past) → Type 0
AreStepsTo old [] new = new ≡ old
AreStepsTo old (step ∷ steps) new = (next : Past) × IsStep old step next × AreStepsTo next steps new

-- nothing was heard
abbrev pub begun : Rules → Past
begun rules = record { parts = []; progress = start rules.options rules.areas }

-- the first packets of a capture come to this
abbrev pub ArePacketSteps : Rules → List PacketStep → Type 0
ArePacketSteps rules steps = (past : Past) × AreStepsTo (begun rules) steps past
