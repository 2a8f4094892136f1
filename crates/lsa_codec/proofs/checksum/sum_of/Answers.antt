use Rattle.std.proofs.Common.{◌≡◌, ℕ, ◌+◌, ◌*◌, ◌/◌, ◌%◌, ◌-◌, sum, length, sym, subst, refl, rules, arith}
use Rattle.lsa_codec.specs.Checksum.{checksum_of, weighted_sum, covered, with_sum, check_bytes, IsSound, IsOnlySum, IsSumUpToZeros}
use Rattle.lsa_codec.proofs.Checksums.{sound_with, only_with, zeros_with, first_is, second_is, value_is}
use Rattle.lsa_codec.proofs.checksum.sum_of.Goals as goal

pub returns : goal.returns
returns c =
    let bytes = c.args.bytes.now in
    let plain : ℕ = sum (covered (with_sum bytes 0 0)) in
    let weighted : ℕ = weighted_sum (covered (with_sum bytes 0 0)) in
    let first = first_is (length bytes) c.sums_without_field-sums.result.plain c.sums_without_field-sums.result.weighted plain weighted c.residue-first.result c.sums_without_field-sums.ensures.plain c.sums_without_field-sums.ensures.weighted c.residue-first.ensures.value in
    let second = second_is c.sums_without_field-sums.result.plain plain c.residue-first.result _ c.residue-second.result c.sums_without_field-sums.ensures.plain first c.residue-second.ensures.value in
    let value : 256 * c.residue-first.result + c.residue-second.result ≡ check_bytes (length bytes - 2) plain weighted = omega (arith, first, second) in
    record {
      value = value_is bytes _ (omega arith) value;
      sound = subst (λ (v : ℕ). IsSound (with_sum bytes (v / 256) (v % 256))) (sym value) (sound_with bytes (length bytes - 2) plain weighted (omega arith) refl refl refl);
      not_zero = (omega (arith, c.residue-first.ensures.bounds, c.residue-second.ensures.bounds), omega (arith, c.residue-first.ensures.bounds, c.residue-second.ensures.bounds));
      only = subst (λ (v : ℕ). IsOnlySum bytes v) (sym value) (only_with bytes (length bytes - 2) plain weighted (omega arith) refl refl refl);
      zeros = subst (λ (v : ℕ). IsSumUpToZeros bytes v) (sym value) (zeros_with bytes (length bytes - 2) plain weighted (omega arith) refl refl refl);
    }

pub returns-then-bytes-lt20 : goal.returns-then-bytes-lt20
unfolding checksum_of
returns-then-bytes-lt20 c = search rules
