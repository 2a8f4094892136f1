use Rattle.input_reading.proofs.UnderWay.{IsUnderWay}
use Rattle.input_reading.proofs.Unread.{IsLooked}
use Rattle.input_reading.proofs.reader.LineReader.next.Given as goal

abbrev pub invariant-loop : goal.invariant-loop
invariant-loop g l = record {
  under_way : IsUnderWay l.fn.self (g.R.Read.remaining l.fn.input) l.self (g.R.Read.remaining l.input) l.line.items l.tail;
  looked : IsLooked l.fn.self l.self l.fn.input l.input l.counter;
}
