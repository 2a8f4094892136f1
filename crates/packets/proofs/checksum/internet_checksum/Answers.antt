use Rattle.std.proofs.Common.{◌≡◌, ℕ, ◌-◌, sym, ap, ◌∙◌, arith}
use Rattle.packets.specs.Checksum.{checksum_of}
use Rattle.packets.specs.Folding.{folded}
use Rattle.packets.proofs.AreBytes.{AreBytes}
use Rattle.packets.proofs.OnesSums.{sum_of_words}
use Rattle.packets.proofs.Filling.{right_with, only_with}
use Rattle.packets.proofs.checksum.internet_checksum.Goals as goal

pub returns : goal.returns
returns c =
    let bytes = c.args.bytes.now in
    let all : AreBytes bytes = λ i. omega (arith, c.type_inv.bytes i) in
    let value : 65535 - c.folded.result ≡ checksum_of bytes = ap (λ (n : ℕ). 65535 - n) (c.folded.ensures ∙ ap folded (omega arith) ∙ c.added.ensures 0 ∙ ap folded (omega arith) ∙ sym (sum_of_words bytes all)) in
    record {
      value = value;
      right = λ front back even parts. right_with front back bytes _ all value even parts;
      only = λ front back high low even parts h l full. only_with front back bytes _ high low all value even parts h l full;
    }
