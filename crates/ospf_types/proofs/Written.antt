-- Dotted texts, written from their end.
use Rattle.std.proofs.Common.{ℕ, ◌≡◌, ◌+◌, ◌-◌, ◌^◌, ◌<◌, ◌≤◌, List, [], ◌∷◌, ◌++◌, length, get_or, take, drop, ap, ◌∙◌, codes, sym, arith, set, refl, append-nil, append_assoc}
use Rattle.std.specs.Fmt.{decimal}
use Rattle.std.specs.Int.{w32, to_be_bytes}
use Rattle.std.specs.Str.{IsAscii, IsUtf8}
use Rattle.std.proofs.lemmas.Fmt.{IsAscii-decimal, length-decimal-le}
use Rattle.std.proofs.lemmas.List.{drop-set, drop_all, take_all, length-drop}
use Rattle.std.proofs.lemmas.Str.{IsAscii-append, IsUtf8-from_ascii}
use Rattle.std.proofs.lemmas.Str.Ascii.{IsAscii-cons, IsAscii-nil}
use Rattle.ospf_types.specs.Text.{address_text}

octet : ℕ → ℕ → ℕ
octet address at = get_or (to_be_bytes w32 address) at 0

dot_ascii : IsAscii (codes ".")
dot_ascii = IsAscii-cons 46 [] (omega arith) IsAscii-nil

slash_ascii : IsAscii (codes "/")
slash_ascii = IsAscii-cons 47 [] (omega arith) IsAscii-nil

-- a text, a dot and a number after it
dot_number_ascii : (text : List ℕ) (n : ℕ) → IsAscii text → n < 2 ^ 64 → IsAscii (text ++ codes "." ++ decimal n)
dot_number_ascii text n ascii fits = IsAscii-append (text ++ codes ".") (decimal n) (IsAscii-append text (codes ".") ascii dot_ascii) (IsAscii-decimal n fits)

pub address_ascii : (address : ℕ) → IsAscii (address_text address)
unfolding octet
address_ascii address =
    let first = decimal (octet address 0) in
    let second = first ++ codes "." ++ decimal (octet address 1) in
    let third = second ++ codes "." ++ decimal (octet address 2) in
    dot_number_ascii third (octet address 3)
    (dot_number_ascii second (octet address 2)
    (dot_number_ascii first (octet address 1) (IsAscii-decimal (octet address 0) (omega arith)) (omega arith))
    (omega arith)) (omega arith)

pub address_utf8 : (address : ℕ) → IsUtf8 (address_text address)
address_utf8 address = IsUtf8-from_ascii (address_text address) (address_ascii address)

pub prefix_utf8 : (address bits : ℕ) → bits < 2 ^ 64 → IsUtf8 (address_text address ++ codes "/" ++ decimal bits)
prefix_utf8 address bits fits =
    IsUtf8-from_ascii (address_text address ++ codes "/" ++ decimal bits)
    (IsAscii-append (address_text address ++ codes "/") (decimal bits) (IsAscii-append (address_text address) (codes "/") (address_ascii address) slash_ascii)
    (IsAscii-decimal bits fits))

-- a length has up to two digits
pub short_length : (bits : ℕ) → bits ≤ 32 → length (decimal bits) ≤ 2
short_length bits small = length-decimal-le 2 bits (omega arith) (omega (arith, small)) (omega (arith, small))

-- what is from the start of a text that ends with the bytes
pub whole_text : (start end : ℕ) (old new text : List ℕ) → length old ≤ end → length new ≤ end → drop start new ≡ text ++ drop end old
    → take (end - start) (drop start new) ≡ text
whole_text start end old new text few all is =
    take_all (end - start) (drop start new) (omega (arith, length-drop start new)) ∙ is ∙ ap (λ rest. text ++ rest) (drop_all end old few) ∙ append-nil text

-- an address, and a slash and the length after it
pub prefix_written : (start at address bits : ℕ) (old digits new : List ℕ) → length old ≤ 18 → length new ≤ 18 → length digits ≡ 18
    → 0 < at → at ≤ 18 → drop at digits ≡ decimal bits ++ drop 18 old
    → drop start new ≡ address_text address ++ drop (at - 1) (set digits (at - 1) 47)
    → take (18 - start) (drop start new) ≡ address_text address ++ codes "/" ++ decimal bits
prefix_written start at address bits old digits new few all long some within number is =
    let e : at - 1 + 1 ≡ at = omega arith in
    let tail : drop (at - 1) (set digits (at - 1) 47) ≡ 47 ∷ (decimal bits ++ drop 18 old) =
    rw (drop-set digits (at - 1) 47 (omega arith), e, number) refl in
    let none : 47 ∷ (decimal bits ++ drop 18 old) ≡ 47 ∷ decimal bits =
    ap (λ ds. 47 ∷ (decimal bits ++ ds)) (drop_all 18 old few) ∙ ap (λ ds. 47 ∷ ds) (append-nil (decimal bits)) in
    let slash : address_text address ++ 47 ∷ decimal bits ≡ address_text address ++ codes "/" ++ decimal bits =
    sym (append_assoc (address_text address) (codes "/") (decimal bits)) in
    take_all (18 - start) (drop start new) (omega (arith, length-drop start new)) ∙ is ∙ ap (λ ds. address_text address ++ ds) (tail ∙ none) ∙ slash
