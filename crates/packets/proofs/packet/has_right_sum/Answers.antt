use Rattle.std.proofs.Common.{ℕ, List, ◌+◌, ap, ◌∙◌, arith}
use Rattle.std.specs.Prelude.{nat_eq}
use Rattle.packets.specs.Folding.{folded, word_sum}
use Rattle.packets.proofs.Words.{rest_is}
use Rattle.packets.proofs.Covered.{covered_sum}
use Rattle.packets.proofs.packet.has_right_sum.Goals as goal

pub returns : goal.returns
returns c =
    let packet = c.args.packet.now in
    let front : ℕ = c.added-front.result in
    ap (λ (n : ℕ). nat_eq n 65535) (c.folded.ensures ∙ covered_sum packet front c.added.result c.requires (λ i. omega (arith, c.type_inv.packet i)) c.added-front.ensures (λ more. c.added.ensures more ∙ ap (λ (b : List ℕ). folded (front + word_sum b + more)) (rest_is 24 packet)))
