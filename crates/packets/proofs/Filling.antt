-- The checksum in its place makes the sum all ones, and no other word does.
use Rattle.std.proofs.Common.{◌≡◌, ℕ, ◌+◌, ◌*◌, ◌-◌, ◌/◌, ◌%◌, ◌<◌, List, ◌∷◌, ◌++◌, length, subst, sym, ap, ◌∙◌, arith}
use Rattle.packets.specs.Checksum.{words, ones_sum, checksum_of, IsLikeWord}
use Rattle.packets.specs.Folding.{folded, word_sum}
use Rattle.packets.proofs.Words.{word_sum-cons, word_sum-append}
use Rattle.packets.proofs.OnesSums.{sum_of_words}
use Rattle.packets.proofs.AreBytes.{AreBytes, are_bytes_with}

-- what a word adds in place of two zeros
word_added : (front back : List ℕ) (high low : ℕ) → length front % 2 ≡ 0 → word_sum (front ++ high ∷ low ∷ back) ≡ word_sum (front ++ 0 ∷ 0 ∷ back) + (256 * high + low)
word_added front back high low even =
    let n : ℕ = length front / 2 in
    let half : length front ≡ 2 * n = omega (arith, even) in
    omega (arith, word_sum-append n front (high ∷ low ∷ back) half, word_sum-append n front (0 ∷ 0 ∷ back) half, word_sum-cons high low back, word_sum-cons 0 0 back)

sum_with : (front back bytes : List ℕ) (high low : ℕ) → AreBytes bytes → length front % 2 ≡ 0 → bytes ≡ front ++ 0 ∷ 0 ∷ back → high < 256 → low < 256
    → ones_sum (words (front ++ high ∷ low ∷ back)) ≡ folded (word_sum bytes + (256 * high + low))
sum_with front back bytes high low all even is h l =
    let small : AreBytes (front ++ high ∷ low ∷ back) = are_bytes_with front back 0 0 high low (subst AreBytes is all) h l in
    sum_of_words (front ++ high ∷ low ∷ back) small
    ∙ ap folded (word_added front back high low even ∙ ap (λ (b : List ℕ). word_sum b + (256 * high + low)) (sym is))

fills : (sum : ℕ) → folded (sum + (65535 - folded sum)) ≡ 65535
fills sum = grind arith

folded_small : (sum : ℕ) → folded sum < 65536
folded_small sum = grind arith

fills_only : (sum word : ℕ) → word < 65536 → folded (sum + word) ≡ 65535 → IsLikeWord word (65535 - folded sum)
fills_only sum word small full = grind arith

checksum_is : (bytes : List ℕ) → AreBytes bytes → checksum_of bytes ≡ 65535 - folded (word_sum bytes)
checksum_is bytes all = ap (λ (n : ℕ). 65535 - n) (sum_of_words bytes all)

pub right_with : (front back bytes : List ℕ) (sum : ℕ) → AreBytes bytes → sum ≡ checksum_of bytes → length front % 2 ≡ 0 → bytes ≡ front ++ 0 ∷ 0 ∷ back
    → ones_sum (words (front ++ (sum / 256) ∷ (sum % 256) ∷ back)) ≡ 65535
right_with front back bytes sum all is even parts =
    let value : sum ≡ 65535 - folded (word_sum bytes) = is ∙ checksum_is bytes all in
    let both : 256 * (sum / 256) + sum % 256 ≡ sum = omega arith in
    sum_with front back bytes (sum / 256) (sum % 256) all even parts (omega (arith, value)) (omega arith)
    ∙ ap (λ (n : ℕ). folded (word_sum bytes + n)) (both ∙ value)
    ∙ fills (word_sum bytes)

pub only_with : (front back bytes : List ℕ) (sum high low : ℕ) → AreBytes bytes → sum ≡ checksum_of bytes → length front % 2 ≡ 0 → bytes ≡ front ++ 0 ∷ 0 ∷ back → high < 256 → low < 256
    → ones_sum (words (front ++ high ∷ low ∷ back)) ≡ 65535 → IsLikeWord (256 * high + low) sum
only_with front back bytes sum high low all is even parts h l full =
    subst (IsLikeWord (256 * high + low)) (sym (is ∙ checksum_is bytes all)) (fills_only (word_sum bytes) (256 * high + low) (omega arith) (sym (sum_with front back bytes high low all even parts h l) ∙ full))
