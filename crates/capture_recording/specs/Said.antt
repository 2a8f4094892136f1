-- The text that was written to a writer that may fail.
use Rattle.std.specs.Prelude.{ℕ, ◌≡◌, ◌++◌, Bool, true, false, List, Option}
use Rattle.std.specs.Io.KnownBytes.{Appends}
use Rattle.replay.specs.Writing.{AppendsPart}
use Rattle.capture_recording.specs.declared.fault.CapturingFault.{CapturingFault}
use Rattle.capture_recording.specs.declared.fault.CapturingFault.TheVariants.{Capture, Read, Line, Config, Unsaid, Write, Closed, Memory}

-- a writer's known bytes grew by a beginning of these, or by all of them
pub record AppendsUpTo (old new : Option (List ℕ)) (bytes : List ℕ) : Type 0 where
  pub part : List ℕ
  pub rest : List ℕ
  pub joined : bytes ≡ part ++ rest
  pub written : Appends old new part

-- this was written to a writer; once it failed, no more of it
pub record HasSaid (old new : Option (List ℕ)) (is_silent : Bool) (text : List ℕ) : Type 0 where
  pub whole : is_silent ≡ false → Appends old new text
  pub part : is_silent ≡ true → AppendsPart old new text
  pub begun : AppendsUpTo old new text

-- a front of the lines was written, and the others are left
pub record WritesSome (old new : Option (List ℕ)) (lines left : List ℕ) : Type 0 where
  pub front : List ℕ
  pub joined : lines ≡ front ++ left
  pub written : Appends old new front

-- the reason why not all of the text was written, and the part that was
abbrev pub WritesSaidPart : (old new : Option (List ℕ)) → (text : List ℕ) → CapturingFault → Type 0
WritesSaidPart old new text (Capture kind place) = ⊥
WritesSaidPart old new text Read = ⊥
WritesSaidPart old new text (Line fault) = ⊥
WritesSaidPart old new text (Config fault) = ⊥
WritesSaidPart old new text Unsaid = ⊥
WritesSaidPart old new text Write = AppendsPart old new text
WritesSaidPart old new text Closed = AppendsPart old new text
WritesSaidPart old new text Memory = AppendsUpTo old new text
