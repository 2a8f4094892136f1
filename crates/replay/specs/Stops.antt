-- The reason why nothing more is printed, and the parts of a text that a stop leaves.
use Rattle.std.specs.Prelude.{ℕ, ◌≡◌, ◌≢◌, ◌⊎◌, ◌++◌, List, [], ◌∷◌}
use Rattle.replay.specs.declared.fault.ReplayFault.{ReplayFault}
use Rattle.replay.specs.declared.fault.ReplayFault.TheVariants as fault
use Rattle.replay.specs.declared.buffer.PrintError.{PrintError}
use Rattle.replay.specs.declared.buffer.PrintError.TheVariants as stop
use Rattle.replay.specs.declared.writing.WriteError.{WriteError}
use Rattle.replay.specs.declared.writing.WriteError.TheVariants as cannot_write

-- the stop of a write that failed so
abbrev pub stop_of : WriteError → PrintError
stop_of cannot_write.Failed = stop.Write
stop_of cannot_write.Closed = stop.Closed

-- the fault of a replay that stops so
abbrev pub fault_of : PrintError → ReplayFault
fault_of stop.Write = fault.Write
fault_of stop.Closed = fault.Closed
fault_of stop.Memory = fault.Memory

-- the text is a line, or several, and ends with a line feed
pub record IsEnded (text : List ℕ) : Type 0 where
  pub front : List ℕ
  pub ends : text ≡ front ++ 10 ∷ []

-- the text is whole lines, or nothing
abbrev pub AreWholeLines : List ℕ → Type 0
AreWholeLines text = (text ≡ []) ⊎ IsEnded text

-- The parts of a text that a stop leaves written and unwritten. After a failed write, to a closed
-- pipe or elsewhere, something is unwritten. If memory runs out, no line was written in part.
abbrev pub IsLeft : PrintError → (written unwritten : List ℕ) → Type 0
IsLeft stop.Write written unwritten = unwritten ≢ []
IsLeft stop.Closed written unwritten = unwritten ≢ []
IsLeft stop.Memory written unwritten = AreWholeLines written

-- the text is the beginning of the whole that such a stop leaves
pub record IsBeginning (why : PrintError) (text whole : List ℕ) : Type 0 where
  pub rest : List ℕ
  pub joined : whole ≡ text ++ rest
  pub left : IsLeft why text rest
