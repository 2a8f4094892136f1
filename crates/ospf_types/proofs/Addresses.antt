-- Dotted texts and the numbers that they write.
use Rattle.std.proofs.Common.{ℕ, ◌≡◌, ◌^◌, ◌<◌, List, [], ◌∷◌, get_or, refl, sym, ◌∙◌, ap, zero, suc, false, Result, Ok, Err, Some, arith}
use Rattle.std.proofs.lemmas.Nat.{be_bytes_4}
use Rattle.std.specs.Int.{w32, to_be_bytes, from_be_bytes}
use Rattle.std.specs.Result.{is_ok, result_ok}
use Rattle.std.specs.declared.net.ipv4_addr.Ipv4Addr.{Ipv4Addr}
use Rattle.std.specs.Net.Addr.{ipv4_bits}
use Rattle.std.specs.Net.Grammar.{IsDotted, IsIpv4Text, Parses}
use Rattle.std.specs.Net.Text.{ipv4_text}
use Rattle.ospf_types.specs.Text.{address_text}

four_bytes : (a b c d : ℕ) → a < 256 → b < 256 → c < 256 → d < 256 → (i : ℕ) → get_or (a ∷ b ∷ c ∷ d ∷ []) i 0 < 256
four_bytes a b c d ha hb hc hd zero = ha
four_bytes a b c d ha hb hc hd (suc zero) = hb
four_bytes a b c d ha hb hc hd (suc (suc zero)) = hc
four_bytes a b c d ha hb hc hd (suc (suc (suc zero))) = hd
four_bytes a b c d ha hb hc hd (suc (suc (suc (suc i)))) = omega arith

bytes_again : (a b c d : ℕ) → a < 256 → b < 256 → c < 256 → d < 256 → to_be_bytes w32 (from_be_bytes w32 (a ∷ b ∷ c ∷ d ∷ [])) ≡ a ∷ b ∷ c ∷ d ∷ []
bytes_again a b c d ha hb hc hd = be_bytes_4 (a ∷ b ∷ c ∷ d ∷ []) _ refl (four_bytes a b c d ha hb hc hd) refl

-- a dotted text belongs to the number with these bytes
pub dotted_address : (text octets : List ℕ) → IsDotted text octets → text ≡ address_text (from_be_bytes w32 octets)
dotted_address text octets h =
    let same : to_be_bytes w32 (from_be_bytes w32 octets) ≡ octets = rw h.value (bytes_again h.a h.b h.c h.d h.fit.0 h.fit.1 h.fit.2 h.fit.3) in
    h.spelled ∙ ap ipv4_text (sym h.value) ∙ ap ipv4_text (sym same)

-- the text of a number is dotted
pub address_dotted : (n : ℕ) → n < 2 ^ 32 → IsDotted (address_text n) (to_be_bytes w32 n)
address_dotted n fits = record {
  a = get_or (to_be_bytes w32 n) 0 0;
  b = get_or (to_be_bytes w32 n) 1 0;
  c = get_or (to_be_bytes w32 n) 2 0;
  d = get_or (to_be_bytes w32 n) 3 0;
  fit = (omega arith, omega arith, omega arith, omega arith);
  value = refl;
  spelled = refl;
}

-- what a parse gives
pub parsed_spelled : {E : Type 0} (r : Result Ipv4Addr E) (text : List ℕ) (a : Ipv4Addr) → Parses IsIpv4Text text r → Some a ≡ result_ok r
    → text ≡ address_text (ipv4_bits a)
unfolding ipv4_bits
parsed_spelled (Ok b) text a h e = let same : a ≡ b = cc in rw same (dotted_address text b.octets h)
parsed_spelled (Err b) text a h e = cc

-- a text that is refused belongs to no number
pub parsed_refused : {E : Type 0} (r : Result Ipv4Addr E) (text : List ℕ) → Parses IsIpv4Text text r → false ≡ is_ok r
    → (n : ℕ) → n < 2 ^ 32 → text ≡ address_text n → ⊥
parsed_refused (Ok b) text h e n fits same = cc
parsed_refused (Err b) text h e n fits same =
    let a : Ipv4Addr = record { octets = to_be_bytes w32 n } in
    let dotted : IsDotted text (to_be_bytes w32 n) = rw same (address_dotted n fits) in
    h a dotted
