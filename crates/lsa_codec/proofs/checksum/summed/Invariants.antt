use Rattle.std.proofs.Common.{◌≡◌, ◌+◌, ◌*◌, ◌%◌, ◌<◌, sum, length}
use Rattle.lsa_codec.specs.Checksum.{weighted_sum}
use Rattle.lsa_codec.proofs.checksum.summed.Given as goal

-- the sums so far, with those of the rest, make those of all
abbrev pub invariant-loop-rest : goal.invariant-loop-rest
invariant-loop-rest l = record {
  plain : (l.sums.plain + sum l.rest) % 255 ≡ (l.fn.before.plain + sum l.fn.bytes) % 255;
  weighted : (l.sums.weighted + length l.rest * l.sums.plain + weighted_sum l.rest) % 255 ≡ (l.fn.before.weighted + length l.fn.bytes * l.fn.before.plain + weighted_sum l.fn.bytes) % 255;
  plain_bound : l.sums.plain < 255;
  weighted_bound : l.sums.weighted < 255;
}

abbrev pub decreases-loop-rest : goal.decreases-loop-rest
decreases-loop-rest l = length l.rest
