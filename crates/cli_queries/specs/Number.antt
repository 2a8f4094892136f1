-- The output of `abr fault`: the advice for the number of a fault or a refusal.
use Rattle.std.specs.Prelude.{ℕ, ◌≡◌, List, Some, None}
use Rattle.cli_queries.specs.Advice.{advice_of}
use Rattle.cli_queries.specs.Writing.{WritesNumber}
use Rattle.cli_queries.specs.declared.argument_values.WordFault.TheVariants.{NotAnAddress, NotHexadecimal, NotANumber, NotANetwork, Memory}
use Rattle.cli_queries.specs.declared.command_fault.CommandFault.{CommandFault}
use Rattle.cli_queries.specs.declared.command_fault.CommandFault.TheVariants as fault
use Rattle.cli_queries.specs.Answers.{AnswerValue, IsAnswer}

-- the text is the advice for the number that the word writes
pub record Advises (word text : List ℕ) : Type 0 where
  pub number : ℕ
  pub written : WritesNumber word number
  pub advice : advice_of number ≡ Some text

-- the word writes no number, or one that is of no fault and no refusal
abbrev pub HasNoAdvice : List ℕ → Type 0
HasNoAdvice word = (n : ℕ) → WritesNumber word n → advice_of n ≡ None

-- the reason why there is no text
abbrev pub IsNumberFault : List ℕ → CommandFault → Type 0
IsNumberFault word (fault.Word NotAnAddress) = ⊥
IsNumberFault word (fault.Word NotHexadecimal) = ⊥
IsNumberFault word (fault.Word NotANumber) = HasNoAdvice word
IsNumberFault word (fault.Word NotANetwork) = ⊥
IsNumberFault word (fault.Word Memory) = ⊥
IsNumberFault word fault.Memory = Unit {0}
IsNumberFault word _ = ⊥

-- the answer of `abr fault` with this word
abbrev pub IsNumberAnswer : List ℕ → AnswerValue → Type 0
IsNumberAnswer word = IsAnswer (Advises word) (IsNumberFault word)
