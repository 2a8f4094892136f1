-- A number that is filled up with zeros.
use Rattle.std.proofs.Common.{◌≡◌, ◌∙◌, ◌++◌, ◌-◌, ◌^◌, ◌/◌, ◌%◌, List, ℕ, [], false, length, replicate, codes, ap, sym, append_assoc, arith}
use Rattle.std.specs.Prelude.{decimal}
use Rattle.std.specs.Fmt.{padded_integral, format_spec, styled_decimal, char_count}
use Rattle.std.proofs.lemmas.List.{append-nil}
use Rattle.capture_recording.specs.Notes.{nine_digits, time_text}

nine_places : (digits : List ℕ) → padded_integral (format_spec 32 0 4 9 (2 ^ 64 - 1)) false [] digits ≡ replicate (9 - length digits) 48 ++ digits
unfolding padded_integral char_count
nine_places digits =
    let short : 9 - length digits - 0 - 0 ≡ 9 - length digits = omega arith in
    rw (short, append-nil digits)

pub time_written : (time : ℕ) → decimal (time / 1000000000) ++ (codes "." ++ styled_decimal (format_spec 32 0 4 9 (2 ^ 64 - 1)) (time % 1000000000)) ≡ time_text time
time_written time =
    ap (λ digits. decimal (time / 1000000000) ++ (codes "." ++ digits)) (nine_places (decimal (time % 1000000000)))
    ∙ sym (append_assoc (decimal (time / 1000000000)) (codes ".") (nine_digits (time % 1000000000)))
