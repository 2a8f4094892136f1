-- The front of a recording, as it comes.
use Rattle.std.specs.Prelude.{ℕ, ◌≡◌, ◌≤◌, ◌+◌, ◌-◌, ◌==◌, ◌⊎◌, ◌++◌, List, [], ◌∷◌, nat_lt, length, take, Option, if◌then◌else◌}
use Rattle.std.specs.List.{count_by}
use Rattle.input_reading.specs.Shortened.{shortened}
use Rattle.input_reading.specs.Tails.{HasNoLineFeed}
use Rattle.input_reading.specs.Taking.{HasEnded, Takes, TakesLast, TakesWhole}
use Rattle.input_reading.specs.declared.line.TheConstants.{LONGEST}
use Rattle.recording.specs.Faults.{IsFaultOf}
use Rattle.recording.specs.Places.{is_front_word}
use Rattle.recording.specs.Reading.{cut, first_word}
use Rattle.recording.specs.Recordings.{RecordingValue, IsText}
use Rattle.recording.specs.declared.fault.Fault.TheVariants as fault
use Rattle.recording.specs.declared.fault.LineFault.{LineFault}
use Rattle.replay.specs.declared.fault.ReplayFault.{ReplayFault}
use Rattle.replay.specs.declared.fault.ReplayFault.TheVariants as replay_fault
use Rattle.change_log.specs.declared.opening.PreambleEnd.{PreambleEnd}
use Rattle.change_log.specs.declared.opening.PreambleEnd.TheVariants as front_end
use Rattle.change_log.specs.declared.opening.Opening.{Opening}

-- the end of the preamble after a line, which belongs to it or not
abbrev pub ends_after : List ℕ → PreambleEnd → PreambleEnd
ends_after line other = if is_front_word (first_word (cut line)) then (if nat_lt (length line) LONGEST then front_end.Over else front_end.LongLine) else other

-- the front with a line more, where that is one of the front
abbrev pub front_with : PreambleEnd → (front line : List ℕ) → List ℕ
front_with front_end.Over front line = front ++ line
front_with front_end.Line front line = front
front_with front_end.Cut front line = front
front_with front_end.LongLine front line = front ++ line
front_with (front_end.AtFault f) front line = front

-- the line that was read, and its line feed, was added, if it belongs to the preamble
pub record IsLineAdded (end : PreambleEnd) (feed : List ℕ) (old new : Opening) : Type 0 where
  pub ends : new.end ≡ end
  pub line : new.line.items ≡ old.line.items
  pub front : new.front.items ≡ front_with end old.front.items (old.line.items ++ feed)

-- the front has a fault that was found, or nothing changed
abbrev pub IsLooked : (front : List ℕ) → (old new : PreambleEnd) → Type 0
IsLooked front old new = (new ≡ old) ⊎ ((f : LineFault) × (new ≡ front_end.AtFault f) × IsFaultOf front f)

-- the number of line feeds in the bytes
abbrev pub line_feeds : List ℕ → ℕ
line_feeds bytes = count_by (λ byte. byte == 10) bytes

-- the number of the last line of a text, counted from 1, which may have its line feed or not
abbrev pub last_line : List ℕ → ℕ
last_line text = line_feeds (take (length text - 1) text) + 1

-- The lines of the preamble were read, and the last of them is too long to be read whole. The
-- preamble contains it, cut short.
pub record IsLongFront (front held : List ℕ) (known : Option (List ℕ)) (kept : List ℕ) (left : Option (List ℕ)) : Type 0 where
  pub before : List ℕ
  pub raw : List ℕ
  pub after : List ℕ
  pub feed : (after ≡ 10 ∷ []) ⊎ (after ≡ [])
  pub joined : front ≡ before ++ (shortened raw ++ after)
  pub line : HasNoLineFeed raw
  pub long : LONGEST ≤ length raw
  pub read : Takes held known kept left (before ++ (raw ++ after))

-- The front was taken, and the line that ended it.
abbrev pub OpensPreamble : PreambleEnd → (front line held : List ℕ) → (known : Option (List ℕ)) → (kept : List ℕ) → (left : Option (List ℕ)) → Type 0
OpensPreamble front_end.Over front line held known kept left = Takes held known kept left front × HasEnded kept left
OpensPreamble front_end.Line front line held known kept left = (mid : List ℕ) × (rest : Option (List ℕ)) × Takes held known mid rest front × TakesWhole mid rest kept left line
OpensPreamble front_end.Cut front line held known kept left = (mid : List ℕ) × (rest : Option (List ℕ)) × Takes held known mid rest front × TakesLast mid rest kept left line
OpensPreamble front_end.LongLine front line held known kept left = IsLongFront front held known kept left
OpensPreamble (front_end.AtFault f) front line held known kept left = Takes held known kept left front × IsFaultOf front f

-- each line of the preamble was taken whole, and none of them is known to have a fault
abbrev pub IsPreambleWhole : PreambleEnd → Type 0
IsPreambleWhole front_end.Over = Unit {0}
IsPreambleWhole front_end.Line = Unit {0}
IsPreambleWhole front_end.Cut = Unit {0}
IsPreambleWhole front_end.LongLine = ⊥
IsPreambleWhole (front_end.AtFault f) = ⊥

-- the fault is one of the front, or of the front and these bytes
abbrev pub IsFaultUpTo : (more front : List ℕ) → LineFault → Type 0
IsFaultUpTo more front f = IsFaultOf front f ⊎ IsFaultOf (front ++ more) f

-- it is, or memory ran out
abbrev pub IsFaultWith : (more front : List ℕ) → ReplayFault → Type 0
IsFaultWith more front e = (e ≡ replay_fault.Memory) ⊎ ((f : LineFault) × (e ≡ replay_fault.Line f) × IsFaultUpTo more front f)

-- the text of a recording, and the fault is that its last line has no form
abbrev pub IsFormless : (text : List ℕ) → (number : ℕ) → LineFault → Type 0
IsFormless text number f = (r : RecordingValue) × IsText text r × (f ≡ record { line = number; fault = fault.Line })

-- The reason why the preamble is not valid. If a line was too long and cut short, and the preamble
-- then has no fault, the fault is that this line has no form.
abbrev pub HasOpeningFault : PreambleEnd → (front line : List ℕ) → LineFault → Type 0
HasOpeningFault front_end.Over front line f = IsFaultOf front f
HasOpeningFault front_end.Line front line f = IsFaultUpTo (line ++ 10 ∷ []) front f
HasOpeningFault front_end.Cut front line f = IsFaultUpTo (line ++ []) front f
HasOpeningFault front_end.LongLine front line f = IsFaultOf front f ⊎ IsFormless front (last_line front) f
HasOpeningFault (front_end.AtFault g) front line f = f ≡ g

abbrev pub IsFrontFault : Opening → ReplayFault → Type 0
IsFrontFault o e = (e ≡ replay_fault.Memory) ⊎ ((f : LineFault) × (e ≡ replay_fault.Line f) × HasOpeningFault o.end o.front.items o.line.items f)
