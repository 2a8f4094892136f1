-- The packets that an input has at first.
use Rattle.std.specs.Prelude.{ℕ, List, Option}
use Rattle.captures.specs.Positions.{Position, GoesOn}
use Rattle.capture_recording.specs.Rules.{Rules}
use Rattle.capture_recording.specs.Ending.{first_position}
use Rattle.capture_recording.specs.Steps.{PacketStep, packets_of, ArePacketSteps}
use Rattle.capture_recording.specs.Texts.{AreLines}

-- The first packets of an input, up to a position, and the text of their lines: this holds of them.
pub record FirstPackets (rules : Rules) (before after : Option (List ℕ)) (P : Position → List PacketStep → (lines : List ℕ) → Type 0) : Type 0 where
  pub steps : List PacketStep
  pub at : Position
  pub goes : GoesOn first_position before at after (packets_of steps)
  pub are : ArePacketSteps rules steps
  pub lines : List ℕ
  pub are_lines : AreLines steps lines
  pub holds : P at steps lines
