use Rattle.cli_queries.specs.declared.command_fault.CommandFault.TheVariants as fault
use Rattle.cli_queries.proofs.Said.{said_of}
use Rattle.cli_queries.proofs.printing.say_unwritten.Goals as goal

pub returns-in-Failed : goal.returns-in-Failed
returns-in-Failed g c = rw c.in-Failed.is (said_of fault.Write _ _ _ c.print_fault.ensures)
