-- The bytes that are taken of an input: first the pending bytes, then those that the reader has
-- left.
use Rattle.std.specs.Prelude.{ℕ, ◌≡◌, ◌≢◌, List, [], ◌∷◌, ◌++◌, Option, Result, MatchResult}
use Rattle.std.specs.Io.KnownBytes.{Consumes, IsAtEnd, prepend_known}
use Rattle.input_reading.specs.Shortened.{shortened}
use Rattle.input_reading.specs.declared.reader.Next.{Next}
use Rattle.input_reading.specs.declared.reader.Next.TheVariants.{Line, Cut, End}
use Rattle.input_reading.specs.declared.fault.ReadFault.{ReadFault}
use Rattle.input_reading.specs.declared.tail.Tail.{Tail}
use Rattle.input_reading.specs.Tails.{HasNoLineFeed, IsGathered}

-- from the bytes of an input to what is left of them
abbrev pub Takes : (old : List ℕ) (before : Option (List ℕ)) (new : List ℕ) (after : Option (List ℕ)) (bytes : List ℕ) → Type 0
Takes old before new after bytes = Consumes (prepend_known old before) (prepend_known new after) bytes

-- nothing is pending, and the reader is at its end
abbrev pub HasEnded : (new : List ℕ) (after : Option (List ℕ)) → Type 0
HasEnded new after = (new ≡ []) × IsAtEnd after

-- a line and its line feed are taken
pub record TakesWhole (old : List ℕ) (before : Option (List ℕ)) (new : List ℕ) (after : Option (List ℕ)) (line : List ℕ) : Type 0 where
  pub raw : List ℕ
  pub one : HasNoLineFeed raw
  pub taken : Takes old before new after (raw ++ 10 ∷ [])
  pub handed_on : line ≡ shortened raw

-- the last bytes of the input are taken, which have no line feed
pub record TakesLast (old : List ℕ) (before : Option (List ℕ)) (new : List ℕ) (after : Option (List ℕ)) (line : List ℕ) : Type 0 where
  pub raw : List ℕ
  pub some : raw ≢ []
  pub one : HasNoLineFeed raw
  pub taken : Takes old before new after raw
  pub handed_on : line ≡ shortened raw
  pub ended : HasEnded new after

-- nothing is left to take
pub record TakesNone (old : List ℕ) (before : Option (List ℕ)) (new : List ℕ) (after : Option (List ℕ)) (line : List ℕ) : Type 0 where
  pub taken : Takes old before new after []
  pub empty : line ≡ []
  pub ended : HasEnded new after

-- the bytes that a call takes, by its answer
abbrev pub TakesNext : (old : List ℕ) (before : Option (List ℕ)) (new : List ℕ) (after : Option (List ℕ)) (line : List ℕ) → Next → Type 0
TakesNext old before new after line Line = TakesWhole old before new after line
TakesNext old before new after line Cut = TakesLast old before new after line
TakesNext old before new after line End = TakesNone old before new after line

-- some bytes are taken, and are lost
abbrev pub Loses : (old : List ℕ) (before : Option (List ℕ)) (new : List ℕ) (after : Option (List ℕ)) → Type 0
Loses old before new after = (lost : List ℕ) × Takes old before new after lost

-- the bytes that a call of `next` takes of the input, and the line that it returns; if it fails,
-- some bytes are lost
abbrev pub TakesLine : (old : List ℕ) (before : Option (List ℕ)) (new : List ℕ) (after : Option (List ℕ)) (line : List ℕ) → Result Next ReadFault → Type 0
TakesLine old before new after line result = MatchResult result (TakesNext old before new after line) (λ _. Loses old before new after)

-- the result for an input that ends after these bytes, which have no line feed
abbrev pub EndsAs : (raw line : List ℕ) → Next → Type 0
EndsAs raw line Line = ⊥
EndsAs raw line Cut = (raw ≢ []) × (line ≡ shortened raw)
EndsAs raw line End = (raw ≡ []) × (line ≡ [])

-- the end of the line after these bytes are gathered
abbrev pub EndsLine : (line : List ℕ) (tail : Tail) (ended : List ℕ) → Next → Type 0
EndsLine line tail ended next = (raw : List ℕ) → IsGathered raw line tail → EndsAs raw ended next
