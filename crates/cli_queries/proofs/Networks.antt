-- Networks, as an address and a length with a slash between them.
use Rattle.std.proofs.Common.{ℕ, ◌≡◌, ◌≢◌, ◌∙◌, ◌^◌, ◌<◌, ◌++◌, List, [], Option, Some, None, IfSome, MatchOption, inl, inr, length, get_or, decimal, codes, arith, lit<, lit≤, ap, sym, subst, zero, suc, append_assoc}
use Rattle.std.specs.Borrow.{Bor}
use Rattle.std.specs.Int.{w32, to_be_bytes, from_be_bytes}
use Rattle.std.specs.Net.Reader.{read_ipv4}
use Rattle.std.proofs.lemmas.Fmt.{decimal_injective}
use Rattle.std.proofs.lemmas.List.Elements.{All-get_or}
use Rattle.std.proofs.lemmas.Nat.{from_be_bytes-to_be_bytes_4}
use Rattle.std.proofs.lemmas.Str.Pattern.{IsSplitOnceResult, split_after, split_parts}
use Rattle.std.proofs.NetLemmas.Alphabet.{IsDigitOrDot, All-ipv4_text}
use Rattle.std.proofs.NetLemmas.Ipv4.{read_ipv4_complete}
use Rattle.ospf_types.specs.declared.prefix.Prefix.{Prefix}
use Rattle.ospf_types.specs.Text.{address_text, prefix_text}
use Rattle.ospf_types.proofs.Addresses.{address_dotted}
use Rattle.cli_queries.specs.Writing.{IsNetworkWord, IsNetworkOf, WritesNetwork, WritesNumber, network_at}

-- ---- the text of an address

address_bytes : (n : ℕ) → n < 2 ^ 32 → (k : ℕ) → get_or (to_be_bytes w32 n) k 0 < 2 ^ 8
address_bytes n fits zero = omega arith
address_bytes n fits (suc zero) = omega arith
address_bytes n fits (suc (suc zero)) = omega arith
address_bytes n fits (suc (suc (suc zero))) = omega arith
address_bytes n fits (suc (suc (suc (suc k)))) = omega arith

-- it has no slash
no_slash : (n : ℕ) → n < 2 ^ 32 → (i : ℕ) → i < length (address_text n) → get_or (address_text n) i 0 ≢ 47
no_slash n fits i within slash =
    let letter : IsDigitOrDot (get_or (address_text n) i 0) = All-get_or IsDigitOrDot (address_text n) i 0 within (All-ipv4_text (to_be_bytes w32 n) (address_bytes n fits)) in
    elim letter [ inl digit ↦ absurd (omega arith) | inr dot ↦ absurd (omega arith) ]

address_of : Option (List ℕ × List ℕ) → ℕ
address_of None = 0
address_of (Some read) = from_be_bytes w32 read.0

again : (n : ℕ) → n < 2 ^ 32 → address_of (read_ipv4 (address_text n ++ [])) ≡ n
unfolding address_of
again n fits = ap address_of (read_ipv4_complete (address_text n) (to_be_bytes w32 n) [] (address_dotted n fits) (lit≤ tt)) ∙ from_be_bytes-to_be_bytes_4 n fits

-- no two addresses have one text
one_address : (m n : ℕ) → m < 2 ^ 32 → n < 2 ^ 32 → address_text m ≡ address_text n → m ≡ n
one_address m n first second same = sym (again m first) ∙ ap (λ text. address_of (read_ipv4 (text ++ []))) same ∙ again n second

-- ---- the word of a network, taken apart

module _ (word : List ℕ) (parts : Option (Bor (List ℕ) × Bor (List ℕ))) (split : IsSplitOnceResult 47 word parts) where
  apart : (p : Prefix) → WritesNetwork word p → MatchOption parts ⊥ (λ x. (x.0.now ≡ address_text p.address) × (x.1.now ≡ decimal p.length))
  apart p w =
      split_after 47 word (address_text p.address) (decimal p.length) parts split (lit< tt)
      (w.spelled ∙ append_assoc (address_text p.address) (codes "/") (decimal p.length)) (no_slash p.address w.network.address)

  pub no_parts : parts ≡ None → (p : Prefix) → WritesNetwork word p → ⊥
  no_parts is p w = rw is at (apart p w)

  module _ (before after : Bor (List ℕ)) (is : parts ≡ Some (before, after)) where
    parts_are : (p : Prefix) → WritesNetwork word p → (before.now ≡ address_text p.address) × (after.now ≡ decimal p.length)
    parts_are p w = rw is at (apart p w)

    pub no_address : ((n : ℕ) → n < 2 ^ 32 → before.now ≢ address_text n) → (p : Prefix) → WritesNetwork word p → ⊥
    no_address none p w = none p.address w.network.address (parts_are p w).0

    pub no_length : ((n : ℕ) → WritesNumber after.now n → ⊥) → (p : Prefix) → WritesNetwork word p → ⊥
    no_length none p w =
        let within = w.network.length in
        none p.length (record { within = omega arith; spelled = (parts_are p w).1 })

    module _ (address long : ℕ) (fits : address < 2 ^ 32) (spelled : before.now ≡ address_text address) (number : WritesNumber after.now long) where
      pub no_network : (IsNetworkWord (network_at address long) → ⊥) → (p : Prefix) → WritesNetwork word p → ⊥
      no_network none p w =
          let short = w.network.length in
          let first : p.address ≡ address = sym (one_address address p.address fits w.network.address (sym spelled ∙ (parts_are p w).0)) in
          let second : p.length ≡ long = sym (decimal_injective long p.length (omega (arith, number.within)) (omega arith) (sym number.spelled ∙ (parts_are p w).1)) in
          let same : p ≡ network_at address long = λ i. record { address = first i; length = second i } in
          none (subst IsNetworkWord same w.network)

      whole : word ≡ prefix_text (network_at address long)
      whole =
          let joined = rw is at (split_parts 47 word parts split (lit< tt)) in
          joined.0 ∙ rw (spelled, number.spelled) (sym (append_assoc (address_text address) (codes "/") (decimal long)))

      pub network_some : (r : Option Prefix) → IfSome r (IsNetworkOf address long) → IfSome r (WritesNetwork word)
      network_some None h = tt
      network_some (Some p) h = record { network = h.0; spelled = whole ∙ ap prefix_text (sym h.1) }
