-- The place of a line feed.
use Rattle.std.proofs.Common.{ℕ, ◌≡◌, ◌≢◌, ◌+◌, ◌<◌, List, ◌∷◌, ◌++◌, length, get_or, take, drop, Option, Some, None, subst, sym, ap, ◌∙◌, arith, take-append-drop, get_or-take}
use Rattle.std.proofs.lemmas.Bool.{eqb-true, eq-eqb}
use Rattle.std.proofs.lemmas.List.{drop_more, length-take-le, take_all}
use Rattle.std.proofs.lemmas.List.Elements.{All-from_get_or}
use Rattle.std.specs.Option.{unwrap_or}
use Rattle.memchr.specs.Find.{IsFirstByte, is_byte}
use Rattle.input_reading.specs.Tails.{Gathers, GathersUpTo, HasNoLineFeed}
use Rattle.input_reading.specs.declared.tail.Tail.{Tail}

-- around a line feed
around : (bytes : List ℕ) (n : ℕ) → n < length bytes → get_or bytes n 0 ≡ 10 → bytes ≡ take n bytes ++ 10 ∷ drop (n + 1) bytes
around bytes n within feed =
    sym (take-append-drop n bytes) ∙ ap (λ rest. take n bytes ++ rest) (drop_more bytes n 0 within ∙ ap (λ byte. byte ∷ drop (n + 1) bytes) feed)

-- bytes without a line feed
none_among : (bytes : List ℕ) → ((k : ℕ) → k < length bytes → get_or bytes k 0 ≢ 10) → HasNoLineFeed bytes
none_among bytes others = All-from_get_or (λ byte. byte ≢ 10) bytes 0 others

none_before : (bytes : List ℕ) (n : ℕ) → n < length bytes → ((k : ℕ) → k < n → get_or bytes k 0 ≢ 10) → HasNoLineFeed (take n bytes)
none_before bytes n within others =
    let short = length-take-le n bytes (omega arith) in
    none_among (take n bytes) (λ k below. let small : k < n = omega arith in rw (get_or-take n bytes k 0 small) (others k small))

pub up_to : (place : Option ℕ) (bytes line longer : List ℕ) (tail further : Tail) (count : ℕ) → IsFirstByte (is_byte 10) bytes place → count ≡ unwrap_or place (length bytes)
    → Gathers (take count bytes) line tail longer further → GathersUpTo place bytes line tail longer further
up_to None bytes line longer tail further count first all gathers =
    let whole : take count bytes ≡ bytes = ap (λ n. take n bytes) all ∙ take_all (length bytes) bytes (omega arith) in
    (none_among bytes (λ k below feed. first k (omega arith) below (eq-eqb (get_or bytes k 0) 10 feed)), subst (λ xs. Gathers xs line tail longer further) whole gathers)
up_to (Some n) bytes line longer tail further count first all gathers =
    let within : n < length bytes = first.0.high in (
      within,
      record {
        one = none_before bytes n within (λ k below feed. first.0.before k (omega arith) below (eq-eqb (get_or bytes k 0) 10 feed));
        whole = around bytes n within (eqb-true (get_or bytes n 0) 10 first.1);
      },
      subst (λ m. Gathers (take m bytes) line tail longer further) all gathers,
    )
