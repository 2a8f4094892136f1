use Rattle.captures.proofs.ReaderWalking.{IsUnderWay}
use Rattle.captures.proofs.reader.PacketReader.next.Given as goal

abbrev pub invariant-loop : goal.invariant-loop
invariant-loop g l = IsUnderWay l.counter l.fn.self (g.R.Read.remaining l.fn.input) l.self (g.R.Read.remaining l.input)
