use Rattle.std.proofs.Common.{drop}
use Rattle.advertised_index.proofs.Clearing.{AreTouchedBut}
use Rattle.advertised_index.proofs.index.AdvertisedIndex.touch_all.Given as goal

abbrev pub invariant-loop-key : goal.invariant-loop-key
invariant-loop-key l = AreTouchedBut (drop l.key-index l.key-items) l.self l.initial.affected l.affected
