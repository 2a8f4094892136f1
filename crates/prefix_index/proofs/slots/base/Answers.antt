use Rattle.std.proofs.Common.{◌≡◌, ℕ, ◌+◌, ◌*◌, ◌/◌, ◌^◌, ap, ◌∙◌}
use Rattle.ospf_types.specs.Network.{network_word}
use Rattle.ospf_types.specs.Words.{mixed}
use Rattle.prefix_index.specs.Slots.{base_of}
use Rattle.prefix_index.proofs.slots.base.Goals as goal

pub returns-clause-value : goal.returns-clause-value
unfolding base_of
returns-clause-value c =
    let hash : c.hash_word.result ≡ mixed c.args.hashing.multiplier c.args.hashing.start (network_word c.args.network) = c.hash_word.ensures ∙ ap (mixed c.args.hashing.multiplier c.args.hashing.start) c.word.ensures in
    ap (λ (n : ℕ). n + 2) c.tag.ensures.value ∙ ap (λ (n : ℕ). n / 2 ^ 32 / 2 ^ c.args.bits * 2 ^ c.args.bits + 2) hash
