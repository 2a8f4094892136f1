use Rattle.std.proofs.Common.{◌<◌, arith, get_or, inl, inr}
use Rattle.std.proofs.lemmas.Int.Digits.{digits_more, digits_value_more}
use Rattle.std.proofs.lemmas.Str.Parse.{digit_at}
use Rattle.std.specs.Char.{digit_value}
use Rattle.recording.proofs.Digits.{digit_value_is, past_digit, past_tens}
use Rattle.recording.proofs.words.decimal_value.Goals as goal

pub returns-then-not-is_ascii_digit : goal.returns-then-not-is_ascii_digit
returns-then-not-is_ascii_digit c digits =
    let digit = digit_at c.args.word.now c.loop-digit.digit-index digits c.loop-digit-test.true in
    elim c.if-not-is_ascii_digit.ensures.cases [ inl below ↦ omega arith | inr above ↦ omega arith ]

pub returns-in_err-tens : goal.returns-in_err-tens
returns-in_err-tens c =
    let i = c.loop-digit.digit-index in
    rw c.from_residual.ensures (λ digits. past_tens c.args.word.now i c.loop-digit.value c.loop-digit-test.true c.loop-digit.invariant.value c.in_err-tens.ensures)

pub returns-in_err-value : goal.returns-in_err-value
returns-in_err-value c =
    let i = c.loop-digit.digit-index in
    let word = c.args.word.now in
    let digit = c.if-not-is_ascii_digit.ensures.cases in
    let is = digit_value_is (get_or word i 0) digit.0 digit.1 in
    rw c.from_residual-in_err-value.ensures (λ digits. past_digit word i c.loop-digit.value c.in_ok-tens.tens c.from.result c.loop-digit-test.true c.loop-digit.invariant.value (omega (arith, c.in_ok-tens.ensures.1)) (omega (arith, is, c.from.ensures)) c.in_err-value.ensures)

pub loop-digit-preserved : goal.loop-digit-preserved
loop-digit-preserved c =
    let i = c.loop-digit.digit-index in
    let word = c.args.word.now in
    let digit = c.if-not-is_ascii_digit.ensures.cases in
    let is = digit_value_is (get_or word i 0) digit.0 digit.1 in
    let small : digit_value (get_or word i 0) < 10 = omega (arith, is, digit) in
    record {
      digits = digits_more 10 word i c.loop-digit-test.true c.loop-digit.invariant.digits small;
      value = omega (arith, digits_value_more 10 word i c.loop-digit-test.true, c.loop-digit.invariant.value, is, c.from.ensures, c.in_ok-value.ensures.1, c.in_ok-tens.ensures.1);
      fits = omega (arith, c.in_ok-value.ensures.0, c.in_ok-value.ensures.1);
    }
