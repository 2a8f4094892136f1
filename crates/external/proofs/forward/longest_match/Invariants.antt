use Rattle.external.proofs.LongestMatch.{NoneFrom}
use Rattle.external.proofs.forward.longest_match.Given as goal

abbrev pub invariant-loop-length : goal.invariant-loop-length
invariant-loop-length l = NoneFrom l.inputs l.address l.length
