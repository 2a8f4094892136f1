use Rattle.std.proofs.Common.{ℕ, ◌-◌, ◌^◌, ap, ◌∙◌, bit_and}
use Rattle.ospf_types.specs.Words.{mixed}
use Rattle.prefix_index.specs.Slots.{home_of}
use Rattle.prefix_index.proofs.slots.home.Goals as goal

pub returns-clause-value : goal.returns-clause-value
unfolding home_of
returns-clause-value c =
    c.home.ensures ∙ ap (λ (n : ℕ). bit_and n (2 ^ c.args.bits - 1)) (c.hash_word.ensures ∙ ap (mixed c.args.hashing.multiplier c.args.hashing.start) c.word.ensures)
