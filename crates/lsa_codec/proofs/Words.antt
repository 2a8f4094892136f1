-- Numbers as bytes, the highest byte first, both ways.
use Rattle.std.proofs.Common.{◌≡◌, ℕ, ◌+◌, ◌^◌, ◌<◌, ◌≤◌, List, [], ◌∷◌, ◌++◌, length, get_or, drop, sym, ap, ◌∙◌, arith}
use Rattle.std.specs.Prelude.{slice_index}
use Rattle.std.proofs.lemmas.List.{length-drop, drop-drop, get_or-drop, drop_more}
use Rattle.byteorder.specs.Endian.{big_bytes, big_number}
use Rattle.byteorder.specs.Numbers.{big_number-reads_back, big_from-lt}

abbrev pub IsBytes : List ℕ → Type 0
IsBytes bytes = (i : ℕ) → get_or bytes i 0 < 256

pub IsBytes-drop : (n : ℕ) (bytes : List ℕ) → IsBytes bytes → IsBytes (drop n bytes)
IsBytes-drop n bytes h i = rw get_or-drop (h (n + i))

pub number_below : (n : ℕ) (bytes : List ℕ) → IsBytes bytes → big_number n bytes < 256 ^ n
number_below n bytes h = big_from-lt 0 n bytes h

pub number_again : (n x : ℕ) (rest : List ℕ) → x < 256 ^ n → big_number n (big_bytes n x ++ rest) ≡ x
number_again n x rest h = big_number-reads_back n x rest h

-- more bytes in front
pub then : (front rest middle whole : List ℕ) → rest ≡ middle → front ++ middle ≡ whole → front ++ rest ≡ whole
then front rest middle whole e f = ap (λ (r : List ℕ). front ++ r) e ∙ f

cells_2 : (a b c d : ℕ) (rest : List ℕ) → a ≡ c → b ≡ d → a ∷ b ∷ rest ≡ c ∷ d ∷ rest
cells_2 a b c d rest p q = cc

cells_3 : (a b c d e f : ℕ) (rest : List ℕ) → a ≡ d → b ≡ e → c ≡ f → a ∷ b ∷ c ∷ rest ≡ d ∷ e ∷ f ∷ rest
cells_3 a b c d e f rest p q r = cc

cells_4 : (a b c d e f g h : ℕ) (rest : List ℕ) → a ≡ e → b ≡ f → c ≡ g → d ≡ h → a ∷ b ∷ c ∷ d ∷ rest ≡ e ∷ f ∷ g ∷ h ∷ rest
cells_4 a b c d e f g h rest p q r s = cc

-- the bytes of the number that bytes give are those bytes
pub back_2 : (bytes : List ℕ) → 2 ≤ length bytes → IsBytes bytes → big_bytes 2 (big_number 2 bytes) ++ drop 2 bytes ≡ bytes
back_2 [] long fits = absurd (omega arith)
back_2 (a ∷ []) long fits = absurd (omega arith)
back_2 (a ∷ b ∷ rest) long fits =
    let fa : a < 256 = fits 0 in
    let fb : b < 256 = fits 1 in
    cells_2 _ _ a b rest (omega arith) (omega arith)

pub back_3 : (bytes : List ℕ) → 3 ≤ length bytes → IsBytes bytes → big_bytes 3 (big_number 3 bytes) ++ drop 3 bytes ≡ bytes
back_3 [] long fits = absurd (omega arith)
back_3 (a ∷ []) long fits = absurd (omega arith)
back_3 (a ∷ b ∷ []) long fits = absurd (omega arith)
back_3 (a ∷ b ∷ c ∷ rest) long fits =
    let fa : a < 256 = fits 0 in
    let fb : b < 256 = fits 1 in
    let fc : c < 256 = fits 2 in
    cells_3 _ _ _ a b c rest (omega arith) (omega arith) (omega arith)

pub back_4 : (bytes : List ℕ) → 4 ≤ length bytes → IsBytes bytes → big_bytes 4 (big_number 4 bytes) ++ drop 4 bytes ≡ bytes
back_4 [] long fits = absurd (omega arith)
back_4 (a ∷ []) long fits = absurd (omega arith)
back_4 (a ∷ b ∷ []) long fits = absurd (omega arith)
back_4 (a ∷ b ∷ c ∷ []) long fits = absurd (omega arith)
back_4 (a ∷ b ∷ c ∷ d ∷ rest) long fits =
    let fa : a < 256 = fits 0 in
    let fb : b < 256 = fits 1 in
    let fc : c < 256 = fits 2 in
    let fd : d < 256 = fits 3 in
    cells_4 _ _ _ _ a b c d rest (omega arith) (omega arith) (omega arith) (omega arith)

-- the same at a place
pub word_2 : (i : ℕ) (bytes : List ℕ) → i + 2 ≤ length bytes → IsBytes bytes → big_bytes 2 (big_number 2 (drop i bytes)) ++ drop (i + 2) bytes ≡ drop i bytes
word_2 i bytes long fits =
    ap (λ (r : List ℕ). big_bytes 2 (big_number 2 (drop i bytes)) ++ r) (sym (drop-drop 2 i bytes)) ∙ back_2 (drop i bytes) (omega (arith, length-drop i bytes)) (IsBytes-drop i bytes fits)

pub word_3 : (i : ℕ) (bytes : List ℕ) → i + 3 ≤ length bytes → IsBytes bytes → big_bytes 3 (big_number 3 (drop i bytes)) ++ drop (i + 3) bytes ≡ drop i bytes
word_3 i bytes long fits =
    ap (λ (r : List ℕ). big_bytes 3 (big_number 3 (drop i bytes)) ++ r) (sym (drop-drop 3 i bytes)) ∙ back_3 (drop i bytes) (omega (arith, length-drop i bytes)) (IsBytes-drop i bytes fits)

pub word_4 : (i : ℕ) (bytes : List ℕ) → i + 4 ≤ length bytes → IsBytes bytes → big_bytes 4 (big_number 4 (drop i bytes)) ++ drop (i + 4) bytes ≡ drop i bytes
word_4 i bytes long fits =
    ap (λ (r : List ℕ). big_bytes 4 (big_number 4 (drop i bytes)) ++ r) (sym (drop-drop 4 i bytes)) ∙ back_4 (drop i bytes) (omega (arith, length-drop i bytes)) (IsBytes-drop i bytes fits)

pub byte_1 : (i : ℕ) (bytes : List ℕ) → i < length bytes → slice_index bytes i ∷ drop (i + 1) bytes ≡ drop i bytes
byte_1 i bytes long = sym (drop_more bytes i 0 long)
