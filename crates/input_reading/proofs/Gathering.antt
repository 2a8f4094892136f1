-- A line that comes piece by piece.
use Rattle.std.proofs.Common.{ℕ, zero, suc, ◌≡◌, ◌-◌, ◌++◌, min, List, [], ◌∷◌, length, take, drop, refl, sym, ap, ◌∙◌, arith}
use Rattle.std.proofs.lemmas.List.{take_min, take_rest, drop_min}
use Rattle.input_reading.specs.Tails.{IsGathered, tail_of}
use Rattle.input_reading.specs.declared.line.TheConstants.{LONGEST}
use Rattle.input_reading.specs.declared.tail.Tail.{Tail}

-- the front of two lists
front_of_both : (limit : ℕ) (xs ys : List ℕ) → take limit (xs ++ ys) ≡ take limit xs ++ take (limit - length (take limit xs)) ys
front_of_both zero xs ys = refl
front_of_both (suc n) [] ys = let e : suc n - 0 ≡ suc n = omega arith in ap (λ k. take k ys) (sym e)
front_of_both (suc n) (x ∷ xs) ys =
    let e : suc n - suc (length (take n xs)) ≡ n - length (take n xs) = omega arith in
    ap (λ l. x ∷ l) (front_of_both n xs ys) ∙ ap (λ k. x ∷ take n xs ++ take k ys) (sym e)

-- the rest of two lists after `limit` elements
behind_both : (limit : ℕ) (xs ys : List ℕ) → drop limit (xs ++ ys) ≡ drop limit xs ++ drop (limit - length (take limit xs)) ys
behind_both zero xs ys = refl
behind_both (suc n) [] ys = let e : suc n - 0 ≡ suc n = omega arith in ap (λ k. drop k ys) (sym e)
behind_both (suc n) (x ∷ xs) ys =
    let e : suc n - suc (length (take n xs)) ≡ n - length (take n xs) = omega arith in
    behind_both n xs ys ∙ ap (λ k. drop n xs ++ drop k ys) (sym e)

-- there is room for the rest of the front
fronts : (limit : ℕ) (raw bytes line : List ℕ) → line ≡ take limit raw → line ++ take (min (limit - length line) (length bytes)) bytes ≡ take limit (raw ++ bytes)
fronts limit raw bytes line front =
    ap (λ xs. line ++ xs) (take_min (limit - length line) bytes)
    ∙ ap (λ l. l ++ take (limit - length l) bytes) front ∙ sym (front_of_both limit raw bytes)

behinds : (limit : ℕ) (raw bytes line : List ℕ) → line ≡ take limit raw → drop limit raw ++ drop (min (limit - length line) (length bytes)) bytes ≡ drop limit (raw ++ bytes)
behinds limit raw bytes line front =
    ap (λ xs. drop limit raw ++ xs) (drop_min (limit - length line) bytes)
    ∙ ap (λ l. drop limit raw ++ drop (limit - length l) bytes) front ∙ sym (behind_both limit raw bytes)

-- bytes are gathered: as many as there is room for go into the line, and the others into the tail
pub gathered : (raw bytes line longer : List ℕ) (tail further : Tail) (room : ℕ) → room ≡ min (LONGEST - length line) (length bytes) → IsGathered raw line tail
    → longer ≡ line ++ take room bytes
    → ((before : List ℕ) → tail ≡ tail_of before → further ≡ tail_of (before ++ take (length bytes - room) (drop room bytes)))
    → IsGathered (raw ++ bytes) longer further
gathered raw bytes line longer tail further room so_much was more with = record {
  front = more ∙ ap (λ n. line ++ take n bytes) so_much ∙ fronts LONGEST raw bytes line was.front;
  behind = with (drop LONGEST raw) was.behind ∙ ap (λ l. tail_of (drop LONGEST raw ++ l)) (take_rest bytes room ∙ ap (λ n. drop n bytes) so_much)
      ∙ ap tail_of (behinds LONGEST raw bytes line was.front);
}
