use Rattle.replay.proofs.Written.{Gone}
use Rattle.replay.proofs.writing.write_whole.Given as goal

abbrev pub invariant-loop : goal.invariant-loop
invariant-loop g l = Gone (g.W.Write.contents l.initial.out) (g.W.Write.contents l.out) l.fn.bytes l.rest
