-- The words that a packet's checksum covers.
use Rattle.std.proofs.Common.{◌≡◌, ℕ, ◌+◌, ◌≤◌, List, length, take, drop, sym, ap, ◌∙◌, arith}
use Rattle.std.proofs.lemmas.List.{length-take-le}
use Rattle.packets.specs.Checksum.{words, ones_sum}
use Rattle.packets.specs.Folding.{folded, word_sum}
use Rattle.packets.specs.Packets.{covered}
use Rattle.packets.proofs.Words.{word_sum-append}
use Rattle.packets.proofs.AreBytes.{AreBytes, are_bytes_append, are_bytes_take, are_bytes_drop}
use Rattle.packets.proofs.OnesSums.{sum_of_words}

-- the sum of both parts
pub covered_sum : (packet : List ℕ) (front back : ℕ) → 24 ≤ length packet → AreBytes packet
    → ((more : ℕ) → folded (front + more) ≡ folded (0 + word_sum (take 16 packet) + more))
    → ((more : ℕ) → folded (back + more) ≡ folded (front + word_sum (drop 24 packet) + more))
    → folded back ≡ ones_sum (words (covered packet))
covered_sum packet front back long bytes first second =
    let both : word_sum (covered packet) ≡ word_sum (take 16 packet) + word_sum (drop 24 packet) = word_sum-append 8 (take 16 packet) (drop 24 packet) (length-take-le 16 packet (omega (arith, long))) in
    let small : AreBytes (covered packet) = are_bytes_append (take 16 packet) (drop 24 packet) (are_bytes_take 16 packet bytes) (are_bytes_drop 24 packet bytes) in
    ap folded (omega arith) ∙ second 0 ∙ ap folded (omega arith) ∙ first (word_sum (drop 24 packet))
    ∙ ap folded (omega (arith, both)) ∙ sym (sum_of_words (covered packet) small)
