use Rattle.std.proofs.Common.{◌-◌, ◌*◌, ◌%◌, ◌^◌, refl, ◌∙◌, arith, w64}
use Rattle.prefix_index.proofs.Noting.{with_one, with_zero}
use Rattle.prefix_index.proofs.Ones.{or_left}
use Rattle.prefix_index.proofs.lengths.ShortLastBits.with.Goals as goal

pub returns-then-ends_in_one-clause-noted : goal.returns-then-ends_in_one-clause-noted
returns-then-ends_in_one-clause-noted c =
    with_one w64 c.args.network c.args.self.zero c.args.self.one c.from.result (c.from.ensures ∙ c.length.ensures.value) (omega arith) (c.if-ends_in_one.ensures.one refl)

pub returns-then-ends_in_one-clause-ones_kept : goal.returns-then-ends_in_one-clause-ones_kept
returns-then-ends_in_one-clause-ones_kept c = or_left c.args.self.one (1 * 2 ^ (32 - c.from.result) % 2 ^ 64)

pub returns-else-ends_in_one-clause-noted : goal.returns-else-ends_in_one-clause-noted
returns-else-ends_in_one-clause-noted c =
    with_zero w64 c.args.network c.args.self.zero c.args.self.one c.from.result (c.from.ensures ∙ c.length.ensures.value) (omega arith) (c.if-ends_in_one.ensures.zero refl)

pub returns-else-ends_in_one-clause-zeros_kept : goal.returns-else-ends_in_one-clause-zeros_kept
returns-else-ends_in_one-clause-zeros_kept c = or_left c.args.self.zero (1 * 2 ^ (32 - c.from.result) % 2 ^ 64)
