-- Numbers in decimal digits.
use Rattle.std.proofs.Common.{ℕ, ◌≡◌, ◌∙◌, ◌^◌, ◌<◌, List, Option, Result, Ok, Err, Some, None, IfSome, IsNone, inl, inr, length, decimal, arith, ap, sym, subst}
use Rattle.std.specs.Result.{result_ok}
use Rattle.std.specs.Str.Parse.{AllDigits, ParsesUnsigned, digits_value}
use Rattle.std.proofs.lemmas.Bool.{cases_eq, false≢true}
use Rattle.std.proofs.lemmas.Fmt.{decimal_is_IsNumeral, decimal_nonempty, decimal_digit, first_decimal, decimal-digits_value}
use Rattle.std.proofs.lemmas.Str.Parse.{digit_at, numerals_by_value, parse_gives, parse_plain, tells_digits}
use Rattle.cli_queries.specs.Writing.{IsUnpadded, WritesNumber}

digits : (n : ℕ) → n < 2 ^ 32 → AllDigits 10 (decimal n)
digits n fits = (decimal_is_IsNumeral n (omega arith)).0.1

-- a number has neither a sign nor a zero in front
pub unpadded : (n : ℕ) → n < 2 ^ 32 → IsUnpadded (decimal n)
unpadded n fits =
    let some = decimal_nonempty n (omega arith) in
    let first = digit_at (decimal n) 0 (digits n fits) some in
    record {
      some = some;
      unsigned = λ plus. absurd (omega arith);
      alone = λ zero. elim (cases_eq n 0) [
        | inl is ↦ ap (λ m. length (decimal m)) is ∙ ap length (decimal_digit 0 (omega arith))
        | inr more ↦ let above = first_decimal n (omega arith) (omega arith) in absurd (omega arith)
      ];
    }

module _ {E : Type 0} (word : List ℕ) (read : Result ℕ E) (h : ParsesUnsigned 32 10 word read) where
  spelled : (n : ℕ) → read ≡ Ok n → IsUnpadded word → WritesNumber word n
  spelled n is plain =
      let parsed = rw is at (parse_plain (numerals_by_value _ tells_digits) 32 word read h plain.unsigned) in
      let all = parsed.0 in
      let value : n ≡ digits_value 10 word = parsed.1 in
      record {
        within = omega (arith, value, all.2);
        spelled = sym (decimal-digits_value (numerals_by_value _ tells_digits) word all.0 plain.some plain.alone (omega (arith, all.2))) ∙ ap decimal (sym value);
      }

  pub number_some : IsUnpadded word → (o : Option ℕ) → o ≡ result_ok read → IfSome o (WritesNumber word)
  number_some plain None e = tt
  number_some plain (Some n) e = go read (λ is. spelled n is plain) e
    where
      go : (r : Result ℕ E) → (r ≡ Ok n → WritesNumber word n) → Some n ≡ result_ok r → WritesNumber word n
      go (Ok m) from same = from (cc same)
      go (Err f) from same = cc

  pub number_none : (o : Option ℕ) → o ≡ result_ok read → IsNone o → (n : ℕ) → WritesNumber word n → ⊥
  number_none o e none n w =
      let value : digits_value 10 word ≡ n = rw w.spelled (decimal_is_IsNumeral n (omega (arith, w.within))).1 in
      let all : AllDigits 10 word = rw w.spelled (digits n w.within) in
      let some : 0 < length word = rw w.spelled (decimal_nonempty n (omega (arith, w.within))) in
      let is = parse_gives (numerals_by_value _ tells_digits) 32 word read h all some (omega (arith, value, w.within)) in
      let given : o ≡ Some (digits_value 10 word) = e ∙ ap result_ok is in
      false≢true (sym (subst IsNone given none))
