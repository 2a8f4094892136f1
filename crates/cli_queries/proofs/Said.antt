-- The line that was printed for a fault.
use Rattle.std.proofs.Common.{ℕ, List, [], Option, Some, None, inl, inr, sym}
use Rattle.std.proofs.lemmas.List.{append-nil}
use Rattle.std.specs.Io.KnownBytes.{Appends}
use Rattle.cli_queries.specs.declared.command_fault.CommandFault.{CommandFault}
use Rattle.cli_queries.specs.Faults.{command_fault_text, fault_line}
use Rattle.cli_queries.specs.Answers.{IsSaid, IsSaidOf}

pub said_of : (f : CommandFault) (status : ℕ) (old new : Option (List ℕ)) → IsSaid (fault_line (command_fault_text f)) 1 status old new → IsSaidOf f status old new
said_of f status old new (inl h) = (h.0, inl h.1)
said_of f status old new (inr h) = (h.0, inr h.1)

-- a writer that stays as it is has nothing more
pub appends_nothing : (known : Option (List ℕ)) → Appends known known []
appends_nothing None = tt
appends_nothing (Some bytes) = sym (append-nil bytes)
