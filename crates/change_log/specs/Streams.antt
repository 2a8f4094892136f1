-- Lines as they come, and what they were taken for.
use Rattle.std.specs.Prelude.{ℕ, ◌≡◌, ◌≤◌, ◌<◌, ◌+◌, ◌⊎◌, ◌++◌, List, [], ◌∷◌, length, Option}
use Rattle.std.specs.Io.KnownBytes.{Consumes}
use Rattle.input_reading.specs.Shortened.{shortened}
use Rattle.input_reading.specs.Tails.{HasNoLineFeed}
use Rattle.input_reading.specs.declared.line.TheConstants.{LONGEST}
use Rattle.recording.specs.declared.fault.Fault.TheVariants as fault
use Rattle.recording.specs.declared.line.Line.{Line}
use Rattle.recording.specs.declared.version.Version.{Version}
use Rattle.recording.specs.Faults.{IsFaultOf}
use Rattle.recording.specs.declared.fault.LineFault.{LineFault}
use Rattle.recording.specs.Progress.{IsFaultBehind, IsLineOf}
use Rattle.change_log.specs.Openings.{IsFormless, line_feeds}
use Rattle.change_log.specs.Runs.{Taken, Says, Comes, Fails}

-- The meaning of the line after the base, or its fault. A line that is too long to be read whole
-- has a fault: that of its beginning, or that it has no form.
abbrev pub IsLineReadAs : Version → (line : List ℕ) → Taken → Type 0
IsLineReadAs v line (Says l) = ⊥
IsLineReadAs v line (Comes l) = (length line < LONGEST) × IsLineOf v line l
IsLineReadAs v line (Fails f) = IsFaultBehind v line f ⊎ ((LONGEST ≤ length line) × (f ≡ fault.Line))

-- these are the lines of the bytes, each with its line feed, and what they were taken for
abbrev pub AreLinesTaken : Version → (bytes : List ℕ) → List Taken → Type 0
AreLinesTaken v bytes [] = bytes ≡ []
AreLinesTaken v bytes (t ∷ taken) =
    (raw : List ℕ) × (rest : List ℕ) × HasNoLineFeed raw × IsLineReadAs v (shortened raw) t × (bytes ≡ raw ++ 10 ∷ rest) × AreLinesTaken v rest taken

-- their meaning, without the lines that have a fault
abbrev pub lines_in : List Taken → List Line
lines_in [] = []
lines_in (Says l ∷ taken) = l ∷ lines_in taken
lines_in (Comes l ∷ taken) = l ∷ lines_in taken
lines_in (Fails f ∷ taken) = lines_in taken

-- none of them has a fault
abbrev pub NoneFails : List Taken → Type 0
NoneFails [] = Unit {0}
NoneFails (Says l ∷ taken) = NoneFails taken
NoneFails (Comes l ∷ taken) = NoneFails taken
NoneFails (Fails f ∷ taken) = ⊥

-- The bytes come from a reader whose known bytes were these before and are these now. More may have
-- been read than was taken.
pub record ComesFrom (before after : Option (List ℕ)) (bytes : List ℕ) : Type 0 where
  pub ahead : List ℕ
  pub read : Consumes before after (bytes ++ ahead)

-- The bytes have a line that is too long to be read whole. The fault is one of the text with that
-- line cut short; or that text has no fault, and the fault is that the line, by its number, has no
-- form.
pub record IsLongFault (bytes : List ℕ) (f : LineFault) : Type 0 where
  pub before : List ℕ
  pub raw : List ℕ
  pub after : List ℕ
  pub joined : bytes ≡ before ++ (raw ++ after)
  pub line : HasNoLineFeed raw
  pub long : LONGEST ≤ length raw
  pub is : IsFaultOf (before ++ (shortened raw ++ after)) f ⊎ IsFormless (before ++ (shortened raw ++ after)) (line_feeds before + 1) f

-- the fault is one of the lines up to the first that is none of the front
abbrev pub IsFaultOfFront : List ℕ → LineFault → Type 0
IsFaultOfFront bytes f = IsFaultOf bytes f ⊎ IsLongFault bytes f
