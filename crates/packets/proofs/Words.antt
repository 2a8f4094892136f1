-- Sums of words, eight bytes at a time.
use Rattle.std.proofs.Common.{◌≡◌, ℕ, zero, suc, ◌+◌, ◌*◌, ◌-◌, ◌<◌, ◌≤◌, List, [], ◌∷◌, ◌++◌, length, drop, take, ap, ◌∙◌, arith}
use Rattle.std.proofs.lemmas.List.{length-drop, take_all}
use Rattle.std.proofs.lemmas.List.Sums.{sum_by-cons}
use Rattle.byteorder.specs.Endian.{big_number}
use Rattle.packets.specs.Checksum.{words}
use Rattle.packets.specs.Folding.{folded, word_sum, zeros}

pub word_sum-cons : (high low : ℕ) (bytes : List ℕ) → word_sum (high ∷ low ∷ bytes) ≡ 256 * high + low + word_sum bytes
word_sum-cons high low bytes = sum_by-cons (λ x. x) (256 * high + low) (words bytes)

-- a multiple of 65535 more is nothing, unless it is added to zeros
pub folded_alike : (x y k : ℕ) → y ≡ x + 65535 * k → (x ≡ 0 → k ≡ 0) → folded y ≡ folded x
folded_alike x y k e zeros = grind arith

-- a word of 64 bits is like its four words
pub long_word : (w x y z more : ℕ) → folded (281474976710656 * w + 4294967296 * x + 65536 * y + z + more) ≡ folded (w + x + y + z + more)
long_word w x y z more =
    folded_alike (w + x + y + z + more) (281474976710656 * w + 4294967296 * x + 65536 * y + z + more) (4295032833 * w + 65537 * x + y) (omega arith) (λ e. omega (arith, e))

-- eight bytes more
pub eight_more : (bytes : List ℕ) (before more : ℕ) → 8 ≤ length bytes → folded (before + big_number 8 bytes + (word_sum (drop 8 bytes) + more)) ≡ folded (before + word_sum bytes + more)
eight_more [] before more long = absurd (omega arith)
eight_more (a ∷ []) before more long = absurd (omega arith)
eight_more (a ∷ b ∷ []) before more long = absurd (omega arith)
eight_more (a ∷ b ∷ c ∷ []) before more long = absurd (omega arith)
eight_more (a ∷ b ∷ c ∷ d ∷ []) before more long = absurd (omega arith)
eight_more (a ∷ b ∷ c ∷ d ∷ e ∷ []) before more long = absurd (omega arith)
eight_more (a ∷ b ∷ c ∷ d ∷ e ∷ f ∷ []) before more long = absurd (omega arith)
eight_more (a ∷ b ∷ c ∷ d ∷ e ∷ f ∷ g ∷ []) before more long = absurd (omega arith)
eight_more (a ∷ b ∷ c ∷ d ∷ e ∷ f ∷ g ∷ h ∷ bytes) before more long =
    let behind : ℕ = word_sum bytes in
    let first : word_sum (a ∷ b ∷ c ∷ d ∷ e ∷ f ∷ g ∷ h ∷ bytes) ≡ 256 * a + b + (256 * c + d + (256 * e + f + (256 * g + h + behind))) =
    word_sum-cons a b (c ∷ d ∷ e ∷ f ∷ g ∷ h ∷ bytes) ∙ ap (λ (n : ℕ). 256 * a + b + n) (word_sum-cons c d (e ∷ f ∷ g ∷ h ∷ bytes) ∙ ap (λ (n : ℕ). 256 * c + d + n) (word_sum-cons e f (g ∷ h ∷ bytes) ∙ ap (λ (n : ℕ). 256 * e + f + n) (word_sum-cons g h bytes))) in
    let like = long_word (256 * a + b) (256 * c + d) (256 * e + f) (256 * g + h) (before + behind + more) in
    ap folded (omega arith) ∙ like ∙ ap folded (omega (arith, first))

last : (a b c d e f g h total more : ℕ) → 256 * a + b + (256 * c + d) + (256 * e + f) + (256 * g + h) ≡ total → folded (big_number 8 (a ∷ b ∷ c ∷ d ∷ e ∷ f ∷ g ∷ h ∷ []) + more) ≡ folded (total + more)
last a b c d e f g h total more e-is =
    let like = long_word (256 * a + b) (256 * c + d) (256 * e + f) (256 * g + h) more in
    ap folded (omega arith) ∙ like ∙ ap folded (omega (arith, e-is))

-- the last bytes, with zeros after them
pub last_padded : (bytes : List ℕ) (more : ℕ) → length bytes < 8 → folded (big_number 8 (bytes ++ drop (length bytes) zeros) + more) ≡ folded (word_sum bytes + more)
last_padded [] more short = last 0 0 0 0 0 0 0 0 _ more (omega arith)
last_padded (a ∷ []) more short = last a 0 0 0 0 0 0 0 _ more (omega arith)
last_padded (a ∷ b ∷ []) more short = last a b 0 0 0 0 0 0 _ more (omega arith)
last_padded (a ∷ b ∷ c ∷ []) more short = last a b c 0 0 0 0 0 _ more (omega arith)
last_padded (a ∷ b ∷ c ∷ d ∷ []) more short = last a b c d 0 0 0 0 _ more (omega arith)
last_padded (a ∷ b ∷ c ∷ d ∷ e ∷ []) more short = last a b c d e 0 0 0 _ more (omega arith)
last_padded (a ∷ b ∷ c ∷ d ∷ e ∷ f ∷ []) more short = last a b c d e f 0 0 _ more (omega arith)
last_padded (a ∷ b ∷ c ∷ d ∷ e ∷ f ∷ g ∷ []) more short = last a b c d e f g 0 _ more (omega arith)
last_padded (a ∷ b ∷ c ∷ d ∷ e ∷ f ∷ g ∷ h ∷ bytes) more short = absurd (omega (arith, short))

-- the slice from a place on
pub rest_is : (k : ℕ) (bytes : List ℕ) → take (length bytes - k) (drop k bytes) ≡ drop k bytes
rest_is k bytes = take_all (length bytes - k) (drop k bytes) (omega (arith, length-drop k bytes))

-- behind whole words
pub word_sum-append : (n : ℕ) (front back : List ℕ) → length front ≡ 2 * n → word_sum (front ++ back) ≡ word_sum front + word_sum back
word_sum-append zero [] back even = omega arith
word_sum-append zero (high ∷ front) back even = absurd (omega (arith, even))
word_sum-append (suc n) [] back even = absurd (omega (arith, even))
word_sum-append (suc n) (high ∷ []) back even = absurd (omega (arith, even))
word_sum-append (suc n) (high ∷ low ∷ front) back even =
    omega (arith, word_sum-cons high low (front ++ back), word_sum-cons high low front, word_sum-append n front back (omega (arith, even)))
