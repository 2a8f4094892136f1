use Rattle.std.proofs.Common.{◌<◌, arith}
use Rattle.std.proofs.lemmas.List.Sums.{sum_by_more}
use Rattle.lsa_codec.proofs.Checksums.{weighted_more}
use Rattle.lsa_codec.proofs.checksum.added.Goals as goal

pub loop-byte-preserved : goal.loop-byte-preserved
loop-byte-preserved c =
    let byte : c.from-plain.result < 256 = omega (arith, c.type_inv.bytes c.loop-byte.byte-index) in
    record {
      plain = omega (arith, sum_by_more (λ x. x) c.args.bytes.now c.loop-byte.byte-index 0 c.loop-byte-test.true);
      weighted = weighted_more c.args.bytes.now c.loop-byte.byte-index c.from-plain.result c.loop-byte.plain c.loop-byte.weighted _ c.loop-byte-test.true c.from-plain.ensures c.loop-byte.invariant.weighted;
      plain_bound = omega arith;
      weighted_bound = omega arith;
    }
