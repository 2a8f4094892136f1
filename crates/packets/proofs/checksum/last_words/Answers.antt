use Rattle.std.proofs.Common.{ℕ, List, ◌+◌, ap, ◌∙◌}
use Rattle.byteorder.specs.Endian.{big_number}
use Rattle.packets.specs.Folding.{folded}
use Rattle.packets.proofs.Words.{last_padded}
use Rattle.packets.proofs.checksum.last_words.Goals as goal

pub returns : goal.returns
returns c = λ more.
    ap (λ (n : ℕ). folded (n + more)) c.read_u64.ensures
    ∙ ap (λ (bytes : List ℕ). folded (big_number 8 bytes + more)) c.padded.ensures
    ∙ last_padded c.args.bytes.now more c.requires
