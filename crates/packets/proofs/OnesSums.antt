-- A one's complement sum is the plain sum, folded.
use Rattle.std.proofs.Common.{◌≡◌, ℕ, suc, ◌+◌, ◌*◌, ◌<◌, List, [], ◌∷◌, get_or, sym, refl, ap, ◌∙◌, arith}
use Rattle.packets.specs.Checksum.{words, ones_add, ones_sum}
use Rattle.packets.specs.Folding.{folded, word_sum}
use Rattle.packets.proofs.Words.{word_sum-cons}

pub add_folded : (word sum : ℕ) → word < 65536 → ones_add word (folded sum) ≡ folded (word + sum)
add_folded word sum small = grind arith

pub sum_of_words : (bytes : List ℕ) → ((i : ℕ) → get_or bytes i 0 < 256) → ones_sum (words bytes) ≡ folded (word_sum bytes)
sum_of_words [] small = refl
sum_of_words (high ∷ []) small =
    let bound : high < 256 = small 0 in
    add_folded (256 * high) 0 (omega arith) ∙ ap folded (omega arith)
sum_of_words (high ∷ low ∷ bytes) small =
    let bound : high < 256 = small 0 in
    let bound-low : low < 256 = small 1 in
    ap (ones_add (256 * high + low)) (sum_of_words bytes (λ i. small (suc (suc i))))
    ∙ add_folded (256 * high + low) (word_sum bytes) (omega arith)
    ∙ ap folded (sym (word_sum-cons high low bytes))
