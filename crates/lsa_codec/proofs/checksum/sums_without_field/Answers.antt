use Rattle.std.proofs.Common.{rules}
use Rattle.lsa_codec.proofs.Checksums.{plain_joined, weighted_joined, from_place}
use Rattle.lsa_codec.proofs.checksum.sums_without_field.Goals as goal

pub returns : goal.returns
returns c =
    let back = from_place 18 c.args.bytes.now in
    record {
      plain = plain_joined c.args.bytes.now c.summed-front.result.plain c.summed-field.result.plain c.summed.result.plain c.requires (search rules) (search rules) (rw back at c.summed.ensures.plain);
      weighted = weighted_joined c.args.bytes.now c.summed-front.result.plain c.summed-front.result.weighted c.summed-field.result.plain c.summed-field.result.weighted c.summed.result.weighted c.requires (search rules) (search rules) (search rules) (search rules) (rw back at c.summed.ensures.weighted);
    }
