-- A text, cut at each place of a byte.
use Rattle.std.proofs.Common.{ℕ, ◌≡◌, ◌≢◌, ◌+◌, ◌<◌, ◌==◌, true, false, List, [], ◌∷◌, ◌++◌, length, get_or, take, drop, Option, Some, None, All, sym, ap, ◌∙◌, arith, take-append-drop, get_or-take}
use Rattle.std.proofs.lemmas.Bool.{false_from_ne_true}
use Rattle.std.proofs.lemmas.List.{drop_more, length-take-le}
use Rattle.std.proofs.lemmas.List.Elements.{All-from_get_or}
use Rattle.std.proofs.lemmas.List.Splits.{slice_split_none, slice_split_at, length-slice_split}
use Rattle.std.specs.List.{slice_split}
use Rattle.memchr.specs.Find.{IsFirstByte, is_byte}
use Rattle.std.specs.Borrow.{Bor}
use Rattle.std.specs.Option.{is_some}
use Rattle.recording.specs.Reading.{cut, words_left}

-- around an element
pub around : (text : List ℕ) (place : ℕ) → place < length text → text ≡ take place text ++ get_or text place 0 ∷ drop (place + 1) text
around text place within = sym (take-append-drop place text) ∙ ap (λ rest. take place text ++ rest) (drop_more text place 0 within)

-- the first part ends at the first place of the byte
pub first_cut : (text : List ℕ) (c place : ℕ) → IsFirstByte (is_byte c) text (Some place)
    → slice_split (λ b. b == c) text ≡ take place text ∷ slice_split (λ b. b == c) (drop (place + 1) text)
first_cut text c place h =
    let within = h.0.high in
    let short = length-take-le place text (omega arith) in
    let front : All (λ b. (b == c) ≡ false) (take place text) =
    All-from_get_or (λ b. (b == c) ≡ false) (take place text) 0
    (λ i below. let small : i < place = omega arith in rw (get_or-take place text i 0 small) (false_from_ne_true _ (h.0.before i (omega arith) small))) in
    ap (slice_split (λ b. b == c)) (around text place within) ∙ slice_split_at (λ b. b == c) (take place text) (get_or text place 0) (drop (place + 1) text) front h.1

-- a text without the byte is one part
pub no_cut : (text : List ℕ) (c : ℕ) → IsFirstByte (is_byte c) text None → slice_split (λ b. b == c) text ≡ text ∷ []
no_cut text c h = slice_split_none (λ b. b == c) text (All-from_get_or (λ b. (b == c) ≡ false) text 0 (λ i below. false_from_ne_true _ (h i (omega arith) below)))

-- there is a part
pub some_part : (text : List ℕ) → cut text ≢ []
some_part text none = omega (arith, length-slice_split (λ b. b == 32) text, ap length none)

-- where something is left of a line, a word is left
pub word_left : (left : Option (Bor (List ℕ))) → is_some left ≡ true → words_left left ≢ []
word_left None none = cc none
word_left (Some text) some = some_part text.now
