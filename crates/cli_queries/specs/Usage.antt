-- The answer to words that name no command.
use Rattle.std.specs.Prelude.{ℕ, ◌≡◌, ◌≢◌, ◌⊎◌, List, []}
use Rattle.clap.specs.Words.{kind_of}
use Rattle.clap.specs.declared.error.Error.{Error}
use Rattle.clap.specs.declared.error.kind.ErrorKind.{ErrorKind}
use Rattle.clap.specs.declared.error.kind.ErrorKind.TheVariants.{DisplayHelp, DisplayVersion}
use Rattle.cli_args.specs.declared.command.Usage.{Usage}
use Rattle.cli_args.specs.declared.command.Usage.TheVariants.{Told, Memory}
use Rattle.cli_queries.specs.declared.command_fault.CommandFault.TheVariants as fault
use Rattle.cli_queries.specs.Answers.{AnswerValue, printed, faulty}

-- neither help nor the version was asked for
abbrev pub IsWrong : ErrorKind → Type 0
IsWrong kind = (kind ≢ DisplayHelp) × (kind ≢ DisplayVersion)

-- a mistake in the words, on standard error
abbrev pub mistaken : List ℕ → AnswerValue
mistaken text = record { status = 2; output = []; fault = text }

-- Help and the version are printed, and a mistake is printed with status 2. Their text is not
-- stated.
abbrev pub IsErrorAnswer : Error → AnswerValue → Type 0
IsErrorAnswer e a = (text : List ℕ) × ((IsWrong (kind_of e) × (a ≡ mistaken text)) ⊎ ((¬ IsWrong (kind_of e)) × (a ≡ printed text)))

-- the same, but memory may run out anywhere
abbrev pub IsUsageAnswer : Usage → AnswerValue → Type 0
IsUsageAnswer (Told e) a = IsErrorAnswer e a ⊎ (a ≡ faulty fault.Memory)
IsUsageAnswer Memory a = a ≡ faulty fault.Memory
