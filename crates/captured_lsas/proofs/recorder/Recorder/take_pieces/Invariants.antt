use Rattle.captured_lsas.proofs.Pieces.{AreTaken}
use Rattle.captured_lsas.proofs.recorder.Recorder.take_pieces.Given as goal

abbrev pub invariant-loop-piece : goal.invariant-loop-piece
invariant-loop-piece l = AreTaken l.initial.self l.self l.area l.initial.piece-iterator l.piece-iterator l.all.items
