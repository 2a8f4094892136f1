-- The number of a last line, by the line feeds before it.
use Rattle.std.proofs.Common.{◌≡◌, ◌≢◌, ◌≤◌, ◌+◌, ◌-◌, ◌⊎◌, ◌==◌, ℕ, Bool, true, false, List, [], ◌∷◌, ◌++◌, All, length, take, drop, refl, sym, ap, subst, ◌∙◌, append-nil, append_assoc, arith, inl, inr, if◌then◌else◌, length-take-le}
use Rattle.std.specs.Prelude.{cond}
use Rattle.std.specs.List.{count_by, list_all}
use Rattle.std.proofs.lemmas.Bool.Decides.{eqb_tells}
use Rattle.std.proofs.lemmas.List.{length-append, take_all}
use Rattle.std.proofs.Math.Seq.{take-append-add, take-append_seam}
use Rattle.std.proofs.lemmas.List.Elements.{All-append, All-cons, All-head, All-nil, All-tail, All-take}
use Rattle.std.proofs.lemmas.List.Sums.{sum_by-append, sum_by-cons}
use Rattle.input_reading.specs.Shortened.{is_hexadecimal, is_odd_number, mark_of, shortened}
use Rattle.input_reading.specs.Tails.{HasNoLineFeed}
use Rattle.input_reading.specs.declared.line.TheConstants.{LONGEST}
use Rattle.change_log.specs.Openings.{last_line, line_feeds}

feeds_more : (xs ys : List ℕ) → line_feeds (xs ++ ys) ≡ line_feeds xs + line_feeds ys
feeds_more xs ys = sum_by-append (λ byte. cond (byte == 10) 1 0) xs ys

-- none of these bytes is one
no_feeds : (xs : List ℕ) → HasNoLineFeed xs → line_feeds xs ≡ 0
no_feeds [] none = refl
no_feeds (x ∷ xs) none =
    let here : (x == 10) ≡ false = elim (eqb_tells x 10) [ inl is ↦ absurd (All-head (λ byte. byte ≢ 10) x xs none is.1) | inr other ↦ other.0 ] in
    sum_by-cons (λ byte. cond (byte == 10) 1 0) x xs ∙ ap (λ b. cond b 1 0 + line_feeds xs) here ∙ ap (λ n. 0 + n) (no_feeds xs (All-tail (λ byte. byte ≢ 10) x xs none))

mark_none : (digits odd : Bool) → HasNoLineFeed (if digits then (if odd then 48 ∷ [] else []) else 63 ∷ [])
mark_none true true = All-cons (λ byte. byte ≢ 10) 48 [] (λ is. absurd (omega arith)) (All-nil (λ byte. byte ≢ 10))
mark_none true false = All-nil (λ byte. byte ≢ 10)
mark_none false odd = All-cons (λ byte. byte ≢ 10) 63 [] (λ is. absurd (omega arith)) (All-nil (λ byte. byte ≢ 10))

shortened_none : (raw : List ℕ) → HasNoLineFeed raw → HasNoLineFeed (shortened raw)
shortened_none raw none =
    let bytes : List ℕ = drop LONGEST raw in
    All-append (λ byte. byte ≢ 10) (take LONGEST raw) (mark_of bytes) (All-take (λ byte. byte ≢ 10) LONGEST raw none) (mark_none (list_all is_hexadecimal bytes) (is_odd_number (length bytes)))

-- the last line of a text begins after these bytes
pub last_behind : (before line after : List ℕ) → HasNoLineFeed line → 1 ≤ length line → (after ≡ 10 ∷ []) ⊎ (after ≡ []) → last_line (before ++ (line ++ after)) ≡ line_feeds before + 1
last_behind before line after none some (inl feed) =
    let whole : before ++ (line ++ after) ≡ (before ++ line) ++ 10 ∷ [] = ap (λ l. before ++ (line ++ l)) feed ∙ sym (append_assoc before line (10 ∷ [])) in
    let long : length ((before ++ line) ++ 10 ∷ []) - 1 ≡ length (before ++ line) = omega (arith, length-append (before ++ line) (10 ∷ [])) in
    let cut : take (length ((before ++ line) ++ 10 ∷ []) - 1) ((before ++ line) ++ 10 ∷ []) ≡ before ++ line =
    ap (λ n. take n ((before ++ line) ++ 10 ∷ [])) long ∙ take-append_seam (before ++ line) (10 ∷ []) in
    ap last_line whole ∙ ap (λ l. line_feeds l + 1) cut ∙ ap (λ n. n + 1) (feeds_more before line) ∙ ap (λ n. (line_feeds before + n) + 1) (no_feeds line none) ∙ omega arith
last_behind before line after none some (inr no_feed) =
    let whole : before ++ (line ++ after) ≡ before ++ line = ap (λ l. before ++ (line ++ l)) no_feed ∙ ap (λ l. before ++ l) (append-nil line) in
    let long : length (before ++ line) - 1 ≡ length before + (length line - 1) = omega (arith, length-append before line) in
    let cut : take (length (before ++ line) - 1) (before ++ line) ≡ before ++ take (length line - 1) line =
    ap (λ n. take n (before ++ line)) long ∙ take-append-add before line (length line - 1) in
    let rest : line_feeds (take (length line - 1) line) ≡ 0 = no_feeds (take (length line - 1) line) (All-take (λ byte. byte ≢ 10) (length line - 1) line none) in
    ap last_line whole ∙ ap (λ l. line_feeds l + 1) cut ∙ ap (λ n. n + 1) (feeds_more before (take (length line - 1) line)) ∙ ap (λ n. (line_feeds before + n) + 1) rest ∙ omega arith

-- a line that is cut short
pub long_last : (before raw after : List ℕ) → HasNoLineFeed raw → LONGEST ≤ length raw → (after ≡ 10 ∷ []) ⊎ (after ≡ []) → last_line (before ++ (shortened raw ++ after)) ≡ line_feeds before + 1
long_last before raw after none long feed = last_behind before (shortened raw) after (shortened_none raw none) (some raw long) feed
  where
    some : (raw : List ℕ) → LONGEST ≤ length raw → 1 ≤ length (shortened raw)
    some raw long =
        let front : length (take LONGEST raw) ≡ LONGEST = length-take-le LONGEST raw long in
        omega (arith, length-append (take LONGEST raw) (mark_of (drop LONGEST raw)), front)
