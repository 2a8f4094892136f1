-- The answer of a command, and what the program wrote of it.
use Rattle.std.specs.Prelude.{ℕ, ◌≡◌, ◌⊎◌, List, [], Option, string_bytes}
use Rattle.std.specs.Io.KnownBytes.{Appends}
use Rattle.replay.specs.Writing.{AppendsPart}
use Rattle.replay.specs.declared.writing.WriteError.{WriteError}
use Rattle.replay.specs.declared.writing.WriteError.TheVariants.{Failed, Closed}
use Rattle.cli_queries.specs.declared.answer.CommandAnswer.{CommandAnswer}
use Rattle.cli_queries.specs.declared.answer.CommandAnswer.TheVariants as answer
use Rattle.cli_queries.specs.declared.command_fault.CommandFault.{CommandFault}
use Rattle.cli_queries.specs.declared.command_fault.CommandFault.TheVariants as fault
use Rattle.cli_queries.specs.Faults.{command_fault_text, status_of, fault_line}

pub record AnswerValue : Type 0 where
  pub status : ℕ
  pub output : List ℕ  -- for standard output
  pub fault : List ℕ  -- for standard error

abbrev pub printed : List ℕ → AnswerValue
printed text = record { status = 0; output = text; fault = [] }

abbrev pub faulty : CommandFault → AnswerValue
faulty f = record { status = status_of f; output = []; fault = fault_line (command_fault_text f) }

abbrev pub value_of : CommandAnswer → AnswerValue
value_of (answer.Printed text) = printed (string_bytes text)
value_of (answer.Fault status line) = record { status = status; output = []; fault = string_bytes line }
value_of answer.NoMemory = faulty fault.Memory

-- a text that the command prints, or one of its faults
abbrev pub IsAnswer : (List ℕ → Type 0) → (CommandFault → Type 0) → AnswerValue → Type 0
IsAnswer Prints IsFault a = ((text : List ℕ) × Prints text × (a ≡ printed text)) ⊎ ((f : CommandFault) × IsFault f × (a ≡ faulty f))

-- ---- what was written

-- a writer's known bytes grew by the line, and the status is the one that is meant; or by a part of
-- it, and the status is 1
abbrev pub IsSaid : (line : List ℕ) (meant : ℕ) (status : ℕ) (old new : Option (List ℕ)) → Type 0
IsSaid line meant status old new = ((status ≡ meant) × Appends old new line) ⊎ ((status ≡ 1) × AppendsPart old new line)

-- the line of a fault that has status 1 was written, whole or in part
abbrev pub IsSaidOf : CommandFault → (status : ℕ) (old new : Option (List ℕ)) → Type 0
IsSaidOf f status old new = (status ≡ 1) × (Appends old new (fault_line (command_fault_text f)) ⊎ AppendsPart old new (fault_line (command_fault_text f)))

-- the whole output was written, and the fault, whole or in part
abbrev pub IsAnswerWritten : AnswerValue → (status : ℕ) (output output_now fault fault_now : Option (List ℕ)) → Type 0
IsAnswerWritten a status o on f fn = Appends o on a.output × IsSaid a.fault a.status status f fn

-- A line on standard error says that the output is not written whole. If its pipe was closed,
-- nothing was written there. The status is 1.
abbrev pub IsUnwrittenSaid : WriteError → (status : ℕ) (old new : Option (List ℕ)) → Type 0
IsUnwrittenSaid Failed status old new = IsSaidOf fault.Write status old new
IsUnwrittenSaid Closed status old new = (status ≡ 1) × (new ≡ old)

-- the output was cut, and what has to be said of that was said
abbrev pub IsCutShort : AnswerValue → (status : ℕ) (output output_now fault fault_now : Option (List ℕ)) → Type 0
IsCutShort a status o on f fn = AppendsPart o on a.output × ((why : WriteError) × IsUnwrittenSaid why status f fn)

-- The program wrote the answer: all that it wrote to both streams, and its status. The status is
-- the answer's, or 1 if a writer failed.
abbrev pub IsAnswerPrinted : AnswerValue → (status : ℕ) (output output_now fault fault_now : Option (List ℕ)) → Type 0
IsAnswerPrinted a status o on f fn = IsAnswerWritten a status o on f fn ⊎ IsCutShort a status o on f fn

-- one of such answers was written
pub record PrintsAnswer (Is : AnswerValue → Type 0) (status : ℕ) (output output_now fault fault_now : Option (List ℕ)) : Type 0 where
  pub answer : AnswerValue
  pub is : Is answer
  pub told : IsAnswerPrinted answer status output output_now fault fault_now
