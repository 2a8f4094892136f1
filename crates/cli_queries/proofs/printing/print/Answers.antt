use Rattle.std.proofs.Common.{inr}
use Rattle.cli_queries.proofs.printing.print.Goals as goal

pub returns-in-Err : goal.returns-in-Err
returns-in-Err g c = inr (rw c.as_bytes.ensures.value at c.in-Err.ensures.err, (c.in-Err.why, c.say_unwritten.ensures))
