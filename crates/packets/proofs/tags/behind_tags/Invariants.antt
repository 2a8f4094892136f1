use Rattle.std.proofs.Common.{List, ℕ, length, ◌↔◌}
use Rattle.packets.specs.Frames.{IsBehindTags}
use Rattle.packets.proofs.tags.behind_tags.Given as goal

-- the rest carries what all the bytes carry
abbrev pub invariant-loop-more : goal.invariant-loop-more
invariant-loop-more l = (packet : List ℕ) → IsBehindTags l.rest packet ↔ IsBehindTags l.bytes packet

abbrev pub decreases-loop-more : goal.decreases-loop-more
decreases-loop-more l = length l.rest
