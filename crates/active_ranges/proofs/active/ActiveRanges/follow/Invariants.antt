-- So far the members up to here followed.
use Rattle.std.proofs.Common.{take}
use Rattle.active_ranges.specs.Following.{AreMembersFollowed}
use Rattle.active_ranges.proofs.active.ActiveRanges.follow.Given as goal

abbrev pub invariant-loop-member : goal.invariant-loop-member
invariant-loop-member l = AreMembersFollowed l.intra.entries (take l.member-index l.named) l.initial.self l.self
