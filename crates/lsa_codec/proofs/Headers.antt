-- A header that is read is the header that was written, and what was written is read again.
use Rattle.std.proofs.Common.{◌≡◌, ℕ, ◌^◌, ◌<◌, ◌≤◌, List, [], ◌∷◌, ◌++◌, length, drop, refl, arith}
use Rattle.byteorder.specs.Endian.{big_bytes}
use Rattle.ospf_types.specs.declared.lsa.Header.{Header}
use Rattle.lsa_codec.specs.Spelling.{header_bytes}
use Rattle.lsa_codec.specs.Checksum.{sum_field}
use Rattle.lsa_codec.specs.Faults.{age_field, options_field, kind_field, id_field, router_field, sequence_field}
use Rattle.lsa_codec.specs.Decoding.{header_of}
use Rattle.lsa_codec.proofs.Words.{IsBytes, then, number_again, back_2, word_2, word_4, byte_1}

pub header_takes : (bytes : List ℕ) → 20 ≤ length bytes → IsBytes bytes → header_bytes (header_of bytes) ++ drop 20 bytes ≡ bytes
header_takes bytes long fits =
    let t18 = word_2 18 bytes (omega arith) fits in
    let t16 = then (big_bytes 2 (sum_field bytes)) _ _ _ t18 (word_2 16 bytes (omega arith) fits) in
    let t12 = then (big_bytes 4 (sequence_field bytes)) _ _ _ t16 (word_4 12 bytes (omega arith) fits) in
    let t8 = then (big_bytes 4 (router_field bytes)) _ _ _ t12 (word_4 8 bytes (omega arith) fits) in
    let t4 = then (big_bytes 4 (id_field bytes)) _ _ _ t8 (word_4 4 bytes (omega arith) fits) in
    let t3 = then (kind_field bytes ∷ []) _ _ _ t4 (byte_1 3 bytes (omega arith)) in
    let t2 = then (options_field bytes ∷ []) _ _ _ t3 (byte_1 2 bytes (omega arith)) in
    then (big_bytes 2 (age_field bytes)) _ _ _ t2 (back_2 bytes (omega arith) fits)

pub record IsWideHeader (h : Header) : Type 0 where
  pub age : h.age < 2 ^ 16
  pub id : h.id < 2 ^ 32
  pub router : h.router < 2 ^ 32
  pub seq : h.seq < 2 ^ 32
  pub sum : h.sum < 2 ^ 16
  pub length : h.length < 2 ^ 16

header_with : (a o k i r s c l a2 i2 r2 s2 c2 l2 : ℕ) → a ≡ a2 → i ≡ i2 → r ≡ r2 → s ≡ s2 → c ≡ c2 → l ≡ l2
    → record { age = a; options = o; kind = k; id = i; router = r; seq = s; sum = c; length = l } ≡ (let h : Header = record { age = a2; options = o; kind = k; id = i2; router = r2; seq = s2; sum = c2; length = l2 } in h)
header_with a o k i r s c l a2 i2 r2 s2 c2 l2 ea ei er es ec el =
    rw (ea, ei, er, es, ec, el) refl

pub header_again : (h : Header) (rest : List ℕ) → IsWideHeader h → header_of (header_bytes h ++ rest) ≡ h
header_again h rest wide =
    header_with _ h.options h.kind _ _ _ _ _ h.age h.id h.router h.seq h.sum h.length
    (number_again 2 h.age (drop 2 (header_bytes h ++ rest)) wide.age)
    (number_again 4 h.id (drop 8 (header_bytes h ++ rest)) wide.id)
    (number_again 4 h.router (drop 12 (header_bytes h ++ rest)) wide.router)
    (number_again 4 h.seq (drop 16 (header_bytes h ++ rest)) wide.seq)
    (number_again 2 h.sum (drop 18 (header_bytes h ++ rest)) wide.sum)
    (number_again 2 h.length rest wide.length)
