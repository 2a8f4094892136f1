use Rattle.std.proofs.Common.{ℕ, List, ◌+◌, ap, ◌∙◌, drop, arith}
use Rattle.packets.specs.Folding.{folded, word_sum}
use Rattle.packets.proofs.Words.{eight_more, rest_is}
use Rattle.packets.proofs.checksum.added.Goals as goal

pub loop-rest-preserved : goal.loop-rest-preserved
loop-rest-preserved c = λ more.
    let rest = c.loop-rest.rest.now in
    let behind : ℕ = word_sum (drop 8 rest) + more in
    ap (λ (b : List ℕ). folded (c.with_carry-sum.result + word_sum b + more)) (rest_is 8 rest)
    ∙ ap folded (omega arith)
    ∙ c.with_carry-sum.ensures behind
    ∙ ap (λ (n : ℕ). folded (c.loop-rest.sum + n + behind)) c.read_u64.ensures
    ∙ eight_more rest c.loop-rest.sum more c.loop-rest-test.true
    ∙ c.loop-rest.invariant more

pub returns : goal.returns
returns c = λ more.
    c.with_carry.ensures more
    ∙ ap folded (omega arith)
    ∙ c.last_words.ensures (c.loop-rest.sum + more)
    ∙ ap folded (omega arith)
    ∙ c.loop-rest.invariant more
