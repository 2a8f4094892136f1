-- So far what the keys up to here name is taken.
use Rattle.std.proofs.Common.{take}
use Rattle.spf.specs.HandedOn.{IsOfSome}
use Rattle.intra.specs.Following.{IsIndexUpdated, NamesVertex}
use Rattle.intra.proofs.area.AreaIntra.follow_keys.Given as goal

abbrev pub invariant-loop-named : goal.invariant-loop-named
invariant-loop-named l =
    IsIndexUpdated l.area.lsas (IsOfSome (take l.named-index l.keys) (NamesVertex l.initial.self.id)) l.initial.self l.self l.initial.prefixes.items l.prefixes.items
