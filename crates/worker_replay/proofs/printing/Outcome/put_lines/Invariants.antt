use Rattle.std.proofs.Common.{string_bytes}
use Rattle.std.specs.Vec.Iter.{into_iter_items}
use Rattle.worker_replay.proofs.Printed.{PrintOptions}
use Rattle.worker_replay.proofs.printing.Outcome.put_lines.Given as goal

abbrev pub invariant-loop-ask : goal.invariant-loop-ask
invariant-loop-ask l =
    PrintOptions l.self.format l.self.seen.now.table l.self.seen.now.table.serial l.fn.first l.fn.asks.items l.fn.replies l.self.rolled (string_bytes l.initial.text) (into_iter_items l.ask-iterator) l.left l.number (string_bytes l.text)
