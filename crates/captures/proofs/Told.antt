-- Bytes that are read as a packet of a pcap were written as one.
use Rattle.std.proofs.Common.{◌≡◌, ℕ, ◌+◌, ◌^◌, ◌<◌, ◌≤◌, Bool, true, false, List, [], ◌∷◌, ◌++◌, length, get_or, take, drop, Result, Ok, Err, refl, sym, ap, subst, ◌∙◌, arith, append_assoc, drop-drop, length-take, length-drop}
use Rattle.std.specs.Prelude.{nat_lt, if◌then◌else◌}
use Rattle.std.proofs.lemmas.Bool.{ltb-false}
use Rattle.std.proofs.lemmas.List.{get_or-drop, take-append-drop}
use Rattle.byteorder.specs.Numbers.{big_from-lt, little_from-lt}
use Rattle.captures.specs.declared.fault.FaultKind.{FaultKind}
use Rattle.captures.specs.declared.front.Front.{Front}
use Rattle.captures.specs.declared.front.Front.TheVariants.{Short}
use Rattle.captures.specs.declared.front.CaptureFormat.{CaptureFormat}
use Rattle.captures.specs.declared.front.TheConstants.{MOST_CAPTURED}
use Rattle.captures.specs.declared.order.Order.{Order}
use Rattle.captures.specs.declared.order.Order.TheVariants.{Big, Little}
use Rattle.captures.specs.Numbers.{number_of, number_at}
use Rattle.captures.specs.Pcap.{packet_front, captured_field}
use Rattle.captures.specs.Reading.{CaptureState, front_in}
use Rattle.captures.specs.Told.{IsContent, WasFilePacket}
use Rattle.captures.specs.Writing.{number_bytes, FilePacket, file_packet_bytes}

abbrev pub IsBytes : List ℕ → Type 0
IsBytes bytes = (i : ℕ) → get_or bytes i 0 < 256

pub IsBytes-drop : (n : ℕ) (bytes : List ℕ) → IsBytes bytes → IsBytes (drop n bytes)
IsBytes-drop n bytes h i = rw get_or-drop (h (n + i))

number_of-lt : (order : Order) (size : ℕ) (bytes : List ℕ) → IsBytes bytes → number_of order size bytes < 256 ^ size
number_of-lt Big size bytes h = big_from-lt 0 size bytes h
number_of-lt Little size bytes h = little_from-lt 0 size bytes h

pub number_at-lt : (order : Order) (size place : ℕ) (bytes : List ℕ) → IsBytes bytes → number_at order size place bytes < 256 ^ size
number_at-lt order size place bytes h = number_of-lt order size (drop place bytes) (IsBytes-drop place bytes h)

-- ---- the bytes of the number that bytes give are those bytes

cells_4 : (a b c d e f g h : ℕ) (rest : List ℕ) → a ≡ e → b ≡ f → c ≡ g → d ≡ h → a ∷ b ∷ c ∷ d ∷ rest ≡ e ∷ f ∷ g ∷ h ∷ rest
cells_4 a b c d e f g h rest p q r s = cc

back_4 : (order : Order) (bytes : List ℕ) → 4 ≤ length bytes → IsBytes bytes → number_bytes order 4 (number_of order 4 bytes) ++ drop 4 bytes ≡ bytes
back_4 order [] long fits = absurd (omega (arith, long))
back_4 order (a ∷ []) long fits = absurd (omega (arith, long))
back_4 order (a ∷ b ∷ []) long fits = absurd (omega (arith, long))
back_4 order (a ∷ b ∷ c ∷ []) long fits = absurd (omega (arith, long))
back_4 Big (a ∷ b ∷ c ∷ d ∷ rest) long fits =
    let fa : a < 256 = fits 0 in
    let fb : b < 256 = fits 1 in
    let fc : c < 256 = fits 2 in
    let fd : d < 256 = fits 3 in
    cells_4 _ _ _ _ a b c d rest (omega (arith, fa, fb, fc, fd)) (omega (arith, fa, fb, fc, fd)) (omega (arith, fa, fb, fc, fd)) (omega (arith, fa, fb, fc, fd))
back_4 Little (a ∷ b ∷ c ∷ d ∷ rest) long fits =
    let fa : a < 256 = fits 0 in
    let fb : b < 256 = fits 1 in
    let fc : c < 256 = fits 2 in
    let fd : d < 256 = fits 3 in
    cells_4 _ _ _ _ a b c d rest (omega (arith, fa, fb, fc, fd)) (omega (arith, fa, fb, fc, fd)) (omega (arith, fa, fb, fc, fd)) (omega (arith, fa, fb, fc, fd))

cells_2 : (a b c d : ℕ) (rest : List ℕ) → a ≡ c → b ≡ d → a ∷ b ∷ rest ≡ c ∷ d ∷ rest
cells_2 a b c d rest p q = cc

back_2 : (order : Order) (bytes : List ℕ) → 2 ≤ length bytes → IsBytes bytes → number_bytes order 2 (number_of order 2 bytes) ++ drop 2 bytes ≡ bytes
back_2 order [] long fits = absurd (omega (arith, long))
back_2 order (a ∷ []) long fits = absurd (omega (arith, long))
back_2 Big (a ∷ b ∷ rest) long fits =
    let fa : a < 256 = fits 0 in
    let fb : b < 256 = fits 1 in
    cells_2 _ _ a b rest (omega (arith, fa, fb)) (omega (arith, fa, fb))
back_2 Little (a ∷ b ∷ rest) long fits =
    let fa : a < 256 = fits 0 in
    let fb : b < 256 = fits 1 in
    cells_2 _ _ a b rest (omega (arith, fa, fb)) (omega (arith, fa, fb))

pub half_back_at : (order : Order) (place : ℕ) (bytes : List ℕ) → place + 2 ≤ length bytes → IsBytes bytes → number_bytes order 2 (number_at order 2 place bytes) ++ drop (place + 2) bytes ≡ drop place bytes
half_back_at order place bytes long fits =
    ap (λ (r : List ℕ). number_bytes order 2 (number_at order 2 place bytes) ++ r) (sym (drop-drop 2 place bytes))
    ∙ back_2 order (drop place bytes) (omega (arith, long, length-drop place bytes)) (IsBytes-drop place bytes fits)

pub back_at : (order : Order) (place : ℕ) (bytes : List ℕ) → place + 4 ≤ length bytes → IsBytes bytes → number_bytes order 4 (number_at order 4 place bytes) ++ drop (place + 4) bytes ≡ drop place bytes
back_at order place bytes long fits =
    ap (λ (r : List ℕ). number_bytes order 4 (number_at order 4 place bytes) ++ r) (sym (drop-drop 4 place bytes))
    ∙ back_4 order (drop place bytes) (omega (arith, long, length-drop place bytes)) (IsBytes-drop place bytes fits)

-- ---- tests, passed

pub long_enough : (count needed : ℕ) (x : Result Front FaultKind) → IsContent (if nat_lt count needed then Ok (Short needed) else x) → (needed ≤ count) × IsContent x
long_enough count needed x =
    let by_test : (b : Bool) → nat_lt count needed ≡ b → IsContent (if b then Ok (Short needed) else x) → (needed ≤ count) × IsContent x = λ b. elim b as (λ v. nat_lt count needed ≡ v → IsContent (if v then Ok (Short needed) else x) → (needed ≤ count) × IsContent x) [
      | true ↦ λ e told. absurd told
      | false ↦ λ e told. (ltb-false _ _ e, told)
    ] in
    by_test (nat_lt count needed) refl

pub no_fault : (test : Bool) (fault : FaultKind) (x : Result Front FaultKind) → IsContent (if test then Err fault else x) → (test ≡ false) × IsContent x
no_fault true fault x told = absurd told
no_fault false fault x told = (refl, told)

-- ---- a packet of a pcap

nested : (a b c d e r : List ℕ) → ((((a ++ b) ++ c) ++ d) ++ e) ++ r ≡ a ++ (b ++ (c ++ (d ++ (e ++ r))))
nested a b c d e r = simp append_assoc refl

pub in_front : (front rest middle whole : List ℕ) → rest ≡ middle → front ++ middle ≡ whole → front ++ rest ≡ whole
in_front front rest middle whole e f = ap (λ (r : List ℕ). front ++ r) e ∙ f

packet_of : Order → List ℕ → FilePacket
packet_of order bytes = record {
  seconds = number_at order 4 0 bytes;
  fraction = number_at order 4 4 bytes;
  wire_length = number_at order 4 12 bytes;
  bytes = take (number_at order 4 8 bytes) (drop 16 bytes);
}

packet_back : (order : Order) (bytes : List ℕ) → IsBytes bytes → 16 + number_at order 4 8 bytes ≤ length bytes
    → (length (packet_of order bytes).bytes ≡ number_at order 4 8 bytes) × (bytes ≡ file_packet_bytes order (packet_of order bytes) ++ drop (16 + number_at order 4 8 bytes) bytes)
unfolding packet_of
packet_back order bytes fits long =
    let n = number_at order 4 8 bytes in
    let count : length (take n (drop 16 bytes)) ≡ n = omega (arith, length-take n (drop 16 bytes), length-drop 16 bytes, long) in
    let t16 : take n (drop 16 bytes) ++ drop (16 + n) bytes ≡ drop 16 bytes = ap (λ (r : List ℕ). take n (drop 16 bytes) ++ r) (sym (drop-drop n 16 bytes)) ∙ take-append-drop n (drop 16 bytes) in
    let t12 = in_front (number_bytes order 4 (number_at order 4 12 bytes)) _ _ _ t16 (back_at order 12 bytes (omega (arith, long)) fits) in
    let t8 = in_front (number_bytes order 4 n) _ _ _ t12 (back_at order 8 bytes (omega (arith, long)) fits) in
    let t4 = in_front (number_bytes order 4 (number_at order 4 4 bytes)) _ _ _ t8 (back_at order 4 bytes (omega (arith, long)) fits) in
    let t0 = in_front (number_bytes order 4 (number_at order 4 0 bytes)) _ _ _ t4 (back_at order 0 bytes (omega (arith, long)) fits) in
    let flat = nested (number_bytes order 4 (number_at order 4 0 bytes)) (number_bytes order 4 (number_at order 4 4 bytes)) (number_bytes order 4 n) (number_bytes order 4 (number_at order 4 12 bytes)) (take n (drop 16 bytes)) (drop (16 + n) bytes) in
    (count, sym (ap (λ m. ((((number_bytes order 4 (number_at order 4 0 bytes) ++ number_bytes order 4 (number_at order 4 4 bytes)) ++ number_bytes order 4 m) ++ number_bytes order 4 (number_at order 4 12 bytes)) ++ take n (drop 16 bytes)) ++ drop (16 + n) bytes) count ∙ flat ∙ t0))

pub packet_was : (s : CaptureState) (bytes : List ℕ) → IsBytes bytes → WasFilePacket s bytes
unfolding packet_of
packet_was s bytes fits file format told =
    let order = file.magic.order in
    let there : IsContent (packet_front file bytes) = subst IsContent (ap (λ (f : CaptureFormat). front_in f s.interfaces bytes) format) told in
    let first = long_enough (length bytes) 16 _ there in
    let second = no_fault (nat_lt MOST_CAPTURED (captured_field file bytes)) _ _ first.1 in
    let third = long_enough (length bytes) (16 + captured_field file bytes) _ second.1 in
    let back = packet_back order bytes fits third.0 in (
      packet_of order bytes,
      record {
        seconds = number_at-lt order 4 0 bytes fits;
        fraction = number_at-lt order 4 4 bytes fits;
        wire_length = number_at-lt order 4 12 bytes fits;
        bytes = omega (arith, back.0, ltb-false MOST_CAPTURED (captured_field file bytes) second.0);
      },
      back.1 ∙ ap (λ n. file_packet_bytes order (packet_of order bytes) ++ drop (16 + n) bytes) (sym back.0),
    )
