use Rattle.std.proofs.Common.{◌≡◌, ℕ, ◌+◌, length}
use Rattle.packets.specs.Folding.{folded, word_sum}
use Rattle.packets.proofs.checksum.added.Given as goal

-- the sum so far, with the words of the rest, is like the sum of all
abbrev pub invariant-loop-rest : goal.invariant-loop-rest
invariant-loop-rest l =
    (more : ℕ) → folded (l.sum + word_sum l.rest + more) ≡ folded (l.fn.before + word_sum l.fn.bytes + more)

abbrev pub decreases-loop-rest : goal.decreases-loop-rest
decreases-loop-rest l = length l.rest
