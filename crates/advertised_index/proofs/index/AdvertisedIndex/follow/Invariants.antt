use Rattle.std.proofs.Common.{drop}
use Rattle.advertised_index.proofs.Following.{IsFollowed, IsNamed}
use Rattle.advertised_index.proofs.index.AdvertisedIndex.follow.Given as goal

abbrev pub invariant-loop-named : goal.invariant-loop-named
invariant-loop-named l = IsFollowed l.from.root l.from.scope l.from.database.now.lsas (IsNamed l.from.root l.from.scope l.from.database.now.lsas (drop l.named-index l.keys)) l.initial.self l.self l.initial.affected l.affected
