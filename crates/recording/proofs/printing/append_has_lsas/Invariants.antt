use Rattle.std.proofs.Common.{string_bytes}
use Rattle.recording.proofs.Pieces.{LsasAppended}
use Rattle.recording.proofs.printing.append_has_lsas.Given as goal

abbrev pub invariant-loop-scope : goal.invariant-loop-scope
invariant-loop-scope l = LsasAppended (string_bytes l.initial.out) (string_bytes l.out) l.lsas l.scope-index
