use Rattle.std.proofs.Common.{drop}
use Rattle.std.specs.Prelude.{Contains}
use Rattle.advertised_index.proofs.Following.{IsFollowed}
use Rattle.advertised_index.proofs.index.AdvertisedIndex.follow_all.Given as goal

abbrev pub invariant-loop-key : goal.invariant-loop-key
invariant-loop-key l = IsFollowed l.from.root l.from.scope l.from.database.now.lsas (Contains (drop l.key-index l.key-items)) l.initial.self l.self l.initial.affected l.affected
