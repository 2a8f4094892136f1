use Rattle.std.proofs.Common.{drop}
use Rattle.area_trees.proofs.Following.{AreRightBut}
use Rattle.area_trees.proofs.networks.NetworkLsas.follow.Given as goal

abbrev pub invariant-loop-key : goal.invariant-loop-key
invariant-loop-key l = AreRightBut l.database.lsas (drop l.key-index l.keys) l.self
