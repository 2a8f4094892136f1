use Rattle.std.proofs.Common.{◌≢◌, ◌-◌, ◌/◌, ◌^◌, bit_and, sym, ◌∙◌, arith}
use Rattle.std.proofs.lemmas.Bool.{eqb-true, eqb-false}
use Rattle.std.proofs.lemmas.Nat.Bits.{bit_at-lt}
use Rattle.prefix_index.specs.Noted.{last_bit}
use Rattle.prefix_index.proofs.Noting.{bit_read}
use Rattle.prefix_index.proofs.lengths.ends_in_one.Goals as goal

pub returns-clause-one : goal.returns-clause-one
returns-clause-one c = λ yes.
    let read = bit_read c.from.result c.from-place.result c.args.network (c.from.ensures ∙ c.address.ensures.value) (c.from-place.ensures ∙ c.length.ensures.value) in
    sym read ∙ eqb-true (bit_and (c.from.result / 2 ^ (32 - c.from-place.result)) 1) 1 yes

pub returns-clause-zero : goal.returns-clause-zero
returns-clause-zero c = λ no.
    let q = c.args.network in
    let read = bit_read c.from.result c.from-place.result q (c.from.ensures ∙ c.address.ensures.value) (c.from-place.ensures ∙ c.length.ensures.value) in
    let other : last_bit q ≢ 1 = λ one. eqb-false (bit_and (c.from.result / 2 ^ (32 - c.from-place.result)) 1) 1 no (read ∙ one) in
    let below = bit_at-lt q.address (32 - q.length) in
    omega (arith, other, below)
