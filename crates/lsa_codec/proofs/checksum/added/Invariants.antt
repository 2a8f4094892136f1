use Rattle.std.proofs.Common.{◌≡◌, ◌+◌, ◌*◌, ◌≤◌, sum, length, take, drop}
use Rattle.lsa_codec.specs.Checksum.{weighted_sum}
use Rattle.lsa_codec.proofs.checksum.added.Given as goal

-- what was added, and how large it can be
abbrev pub invariant-loop-byte : goal.invariant-loop-byte
invariant-loop-byte l = record {
  plain : l.plain ≡ l.fn.before.plain + sum (take l.byte-index l.bytes);
  weighted : l.weighted + length (drop l.byte-index l.bytes) * l.plain + weighted_sum (drop l.byte-index l.bytes) ≡ l.fn.before.weighted + length l.bytes * l.fn.before.plain + weighted_sum l.bytes;
  plain_bound : l.plain ≤ 254 + 255 * l.byte-index;
  weighted_bound : l.weighted ≤ 254 + l.byte-index * 1044735;
}
