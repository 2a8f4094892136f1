-- The pieces of a line, as they are written one after the other.
use Rattle.std.proofs.Common.{◌≡◌, ◌∙◌, ◌++◌, ◌-◌, List, [], ◌∷◌, ℕ, Bool, true, ◌&&◌, ltb, length, take, drop, codes, refl, sym, ap, subst, append_assoc}
use Rattle.std.specs.Prelude.{decimal}
use Rattle.std.specs.Str.{IsAscii, IsUtf8}
use Rattle.std.proofs.lemmas.Bool.{and_parts, ltb-true}
use Rattle.std.proofs.lemmas.Str.{IsUtf8-from_ascii}
use Rattle.std.proofs.lemmas.Str.Ascii.{IsAscii-nil, IsAscii-cons}
use Rattle.byteorder.specs.Endian.{big_number}
use Rattle.hex.specs.Hex.{encode_lower, lower_digits}
use Rattle.hex.proofs.HexLemmas.{IsAscii-encode_with}
use Rattle.ospf_types.specs.declared.lsa.Header.{Header}
use Rattle.ospf_types.specs.Lsa.{RouterLink, ExternalRecord}
use Rattle.ospf_types.specs.Text.{address_text}
use Rattle.lsa_codec.proofs.Checksums.{from_place}
use Rattle.output_lines.specs.Fields.{bit_text, hexadecimal_line}
use Rattle.output_lines.specs.Words.{header_words, bits_line, link_end, record_end}

-- a test that computes
abbrev are_ascii : List ℕ → Bool
are_ascii [] = true
are_ascii (b ∷ bytes) = ltb b 128 && are_ascii bytes

ascii_of_test : (bytes : List ℕ) → are_ascii bytes ≡ true → IsAscii bytes
ascii_of_test [] h = IsAscii-nil
ascii_of_test (b ∷ bytes) h = let (here, rest) = and_parts (ltb b 128) (are_ascii bytes) h in IsAscii-cons b bytes (ltb-true b 128 here) (ascii_of_test bytes rest)

-- hexadecimal digits are text
pub digits_are_text : (digits bytes : List ℕ) → digits ≡ encode_lower bytes → ¬ IsUtf8 digits → ⊥
digits_are_text digits bytes is wrong =
    wrong (subst IsUtf8 (sym is) (IsUtf8-from_ascii (encode_lower bytes) (IsAscii-encode_with lower_digits bytes (ascii_of_test lower_digits refl))))

-- a number that is read at a place
pub number_from : (n place : ℕ) (bytes : List ℕ) (number : ℕ) → number ≡ big_number n (take (length bytes - place) (drop place bytes)) → number ≡ big_number n (drop place bytes)
number_from n place bytes number e = e ∙ ap (big_number n) (from_place place bytes)

-- what is written in several calls
pub two_printed : (old a b mid new : List ℕ) → mid ≡ old ++ a → new ≡ mid ++ b → new ≡ old ++ (a ++ b)
two_printed old a b mid new p q = q ∙ rw p (append_assoc old a b)

pub three_printed : (old a b c first second new : List ℕ) → first ≡ old ++ a → second ≡ first ++ b → new ≡ second ++ c → new ≡ old ++ (a ++ b ++ c)
three_printed old a b c first second new p q r = r ∙ rw (q, p) (simp append_assoc)

pub four_printed : (old a b c d first second third new : List ℕ) → first ≡ old ++ a → second ≡ first ++ b → third ≡ second ++ c → new ≡ third ++ d → new ≡ old ++ (a ++ b ++ c ++ d)
four_printed old a b c d first second third new p q r s = s ∙ rw (r, q, p) (simp append_assoc)

-- a line says what it is to say
pub line_of : (line : ℕ → List ℕ) (old new : List ℕ) (x y : ℕ) → x ≡ y → new ≡ old ++ line x → new ≡ old ++ line y
line_of line old new x y e written = written ∙ ap (λ (n : ℕ). old ++ line n) e

-- what is said of the bytes from a place on
pub rest_of : (words : List ℕ → List ℕ) (place : ℕ) (bytes old new : List ℕ) → new ≡ old ++ words (take (length bytes - place) (drop place bytes)) → new ≡ old ++ words (drop place bytes)
rest_of words place bytes old new written = written ∙ ap (λ (r : List ℕ). old ++ words r) (from_place place bytes)

pub bytes_of : (name old new xs ys : List ℕ) → xs ≡ ys → new ≡ old ++ hexadecimal_line name xs → new ≡ old ++ hexadecimal_line name ys
bytes_of name old new xs ys e written = written ∙ ap (λ (bytes : List ℕ). old ++ hexadecimal_line name bytes) e

pub bits_printed : (old name hex v e b new : List ℕ) (bits : ℕ) → name ≡ old ++ codes "Router bits: " → hex ≡ name ++ encode_lower (bits ∷ [])
    → v ≡ hex ++ bit_text bits 0x04 (codes "bit V") → e ≡ v ++ bit_text bits 0x02 (codes "bit E") → b ≡ e ++ bit_text bits 0x01 (codes "bit B") → new ≡ b ++ codes "\n"
    → new ≡ old ++ bits_line bits
bits_printed old name hex v e b new bits p q r s t u = u ∙ rw (t, s, r, q, p) (simp append_assoc)

pub link_end_printed : (old new : List ℕ) (id data_ metric : ℕ) (l : RouterLink) → id ≡ l.id → data_ ≡ l.detail → metric ≡ l.metric
    → new ≡ old ++ (codes ", Link ID " ++ (address_text id ++ (codes ", Link Data " ++ (address_text data_ ++ (codes ", metric " ++ (decimal metric ++ codes "\n"))))))
    → new ≡ old ++ link_end l
link_end_printed old new id data_ metric l ei ed em written = written ∙ rw (ei, ed, em) (simp append_assoc)

pub record_end_printed : (old new : List ℕ) (forwarding tag : ℕ) (r : ExternalRecord) → forwarding ≡ r.forwarding → tag ≡ r.tag
    → new ≡ old ++ (codes ", Forwarding address " ++ (address_text forwarding ++ (codes ", External Route Tag " ++ (decimal tag ++ codes "\n"))))
    → new ≡ old ++ record_end r
record_end_printed old new forwarding tag r ef et written = written ∙ rw (ef, et) (simp append_assoc)

pub header_of : (old new : List ℕ) (h l : Header) → h ≡ l → new ≡ old ++ header_words h → new ≡ old ++ header_words l
header_of old new h l e written = written ∙ ap (λ (x : Header). old ++ header_words x) e
