-- One step to the next packet.
use Rattle.std.specs.Prelude.{ℕ, ◌≡◌, ◌<◌, List, [], ◌∷◌, Option, Result, MatchResult}
use Rattle.std.specs.Io.KnownBytes.{IsAtEnd}
use Rattle.input_reading.specs.declared.fault.ReadFault.{ReadFault}
use Rattle.captures.specs.declared.capture.Part.{Part}
use Rattle.captures.specs.Reading.{front_of, IsPart}
use Rattle.captures.specs.declared.capture_error.CaptureError.{CaptureError}
use Rattle.captures.specs.declared.reader.ReadStep.{ReadStep}
use Rattle.captures.specs.declared.reader.ReadStep.TheVariants.{On, Packet, End}
use Rattle.captures.specs.Positions.{Position, GoesOn, IsAtEnding, Stops, shown}

-- less than a whole part is pending, and nothing is before it
pub record IsShort (p : Position) : Type 0 where
  pub needed : ℕ
  pub front : MatchResult (front_of p.state p.pending) (λ front. IsPart front p.pending (Part.More needed)) (λ _. ⊥)
  pub near : p.ahead ≡ 0

-- the result of a step that does not fail
abbrev pub StepsTo : (old : Position) (before : Option (List ℕ)) (new : Position) (after : Option (List ℕ)) (bytes : List ℕ) → ReadStep → Type 0
StepsTo old before new after bytes On = GoesOn old before new after []
StepsTo old before new after bytes (Packet head) = GoesOn old before new after (shown head bytes ∷ [])
StepsTo old before new after bytes End = GoesOn old before new after [] × IsAtEnding new after

abbrev pub Steps : (old : Position) (before : Option (List ℕ)) (new : Position) (after : Option (List ℕ)) (bytes : List ℕ) → Result ReadStep CaptureError → Type 0
Steps old before new after bytes result =
    MatchResult result (StepsTo old before new after bytes) (λ error. GoesOn old before new after [] × Stops error new after)

-- pending bytes that are ahead are read past, all of them or as many as are ahead
pub record Passes (old new : Position) : Type 0 where
  pub goes : (left : Option (List ℕ)) → GoesOn old left new left []
  pub all : 0 < new.ahead → new.pending ≡ []

-- bytes are read of the input, none only if it has ended, or it could not be read
abbrev pub Fills : (old : Position) (before : Option (List ℕ)) (new : Position) (after : Option (List ℕ)) → Result ℕ ReadFault → Type 0
Fills old before new after result =
    MatchResult result
    (λ n. GoesOn old before new after [] × (n ≡ 0 → (new ≡ old) × IsAtEnd after))
    (λ _. GoesOn old before new after [] × (new ≡ old))
