-- The bytes of a window, after a write past its end or a step of its start.
use Rattle.std.proofs.Common.{length-append, ◌≡◌, ℕ, ◌+◌, ◌-◌, ◌≤◌, List, ◌++◌, length, take, drop, slice_range, refl, sym, ap, ◌∙◌, arith}
use Rattle.std.proofs.lemmas.List.{with_items_is, append-nil, take_at, drop_at, take-append-le, drop-append-le, drop-take, drop-drop, length-take-le, length-drop}
use Rattle.std.specs.Global.{Vec}
use Rattle.std.specs.Vec.{with_items}
use borrow.Rule.Slice.PartMut.{put_mid, post_of}
use lib.Seq.{take-add}

pub grown : (xs ys : List ℕ) (start end k n : ℕ) → start ≤ end → end ≤ length xs → n ≤ length ys
    → slice_range (put_mid end k xs ys) start (end + n) ≡ slice_range xs start end ++ take n ys
grown xs ys start end k n ordered within fits =
    let front = length-take-le end xs within in
    let held = drop start (take end xs) in
    let len : length held ≡ end - start = omega (arith, length-drop start (take end xs)) in
    let sum : end + n - start ≡ (end - start) + n = omega arith in
    let parts : end ≡ start + (end - start) = omega arith in
    let same : held ≡ take (end - start) (drop start xs) = ap (λ j. drop start (take j xs)) parts ∙ drop-take start (end - start) xs in
    let after = ys ++ post_of end k xs in
    ap (take (end + n - start)) (drop-append-le start (take end xs) after (omega arith))
    ∙ ap (λ j. take j (held ++ after)) sum ∙ take-add (end - start) n (held ++ after)
    ∙ (rw (take_at held after _ len, drop_at held after _ len, take-append-le n ys (post_of end k xs) fits, same) refl)

pub kept : (xs ys : List ℕ) (start end k : ℕ) → start ≤ end → end ≤ length xs
    → slice_range (put_mid end k xs ys) start end ≡ slice_range xs start end
kept xs ys start end k ordered within =
    let none : end ≡ end + 0 = omega arith in
    ap (slice_range (put_mid end k xs ys) start) none ∙ grown xs ys start end k 0 ordered within (omega arith) ∙ append-nil _

pub consumed : (xs : List ℕ) (start end count : ℕ) → start + count ≤ end
    → slice_range xs (start + count) end ≡ drop count (slice_range xs start end)
consumed xs start end count inside =
    let parts : end - start ≡ count + (end - (start + count)) = omega arith in
    sym (ap (λ j. drop count (take j (drop start xs))) parts ∙ drop-take count _ (drop start xs)
    ∙ ap (take (end - (start + count))) (drop-drop count start xs))

length-post : (all : List ℕ) (end : ℕ) → end ≤ length all → length (post_of end (length all - end) all) ≡ 0
length-post all end within = omega (arith, length-drop (length all - end) (drop end all), length-drop end all)

-- in a Vec, whose bytes after the end are overwritten
put_is : (v : Vec ℕ) (all ys : List ℕ) (end : ℕ) → all ≡ v.items → end ≤ length all → length ys ≡ length all - end
    → (with_items v (put_mid end (length all - end) all ys)).items ≡ put_mid end (length all - end) all ys
put_is v all ys end same within long =
    let size : length (put_mid end (length all - end) all ys) ≡ v.len = omega (
      arith,
      ap length same,
      v.ok.0,
      length-append (take end all) (ys ++ post_of end (length all - end) all),
      length-append ys (post_of end (length all - end) all),
      length-take-le end all within,
      length-post all end within,
    ) in
    with_items_is v (put_mid end (length all - end) all ys) size

pub grown_in : (v : Vec ℕ) (all ys : List ℕ) (start end n : ℕ) → all ≡ v.items → start ≤ end → end ≤ length all → length ys ≡ length all - end → n ≤ length ys
    → slice_range (with_items v (put_mid end (length all - end) all ys)).items start (end + n) ≡ slice_range v.items start end ++ take n ys
grown_in v all ys start end n same ordered within long fits =
    ap (λ l. slice_range l start (end + n)) (put_is v all ys end same within long) ∙ grown all ys start end (length all - end) n ordered within fits
    ∙ ap (λ l. slice_range l start end ++ take n ys) same

pub kept_in : (v : Vec ℕ) (all ys : List ℕ) (start end : ℕ) → all ≡ v.items → start ≤ end → end ≤ length all → length ys ≡ length all - end
    → slice_range (with_items v (put_mid end (length all - end) all ys)).items start end ≡ slice_range v.items start end
kept_in v all ys start end same ordered within long =
    ap (λ l. slice_range l start end) (put_is v all ys end same within long) ∙ kept all ys start end (length all - end) ordered within
    ∙ ap (λ l. slice_range l start end) same
