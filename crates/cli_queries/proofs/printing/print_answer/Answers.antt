use Rattle.std.proofs.Common.{inl}
use Rattle.cli_queries.proofs.Said.{appends_nothing}
use Rattle.cli_queries.proofs.printing.print_answer.Goals as goal

pub returns-in-NoMemory : goal.returns-in-NoMemory
returns-in-NoMemory g c = rw c.in-NoMemory.is (inl (appends_nothing _, c.print_fault-in-NoMemory.ensures))
