-- A destination network, as a value.
use Rattle.std.specs.Prelude.{ℕ, ◌+◌, ◌*◌, refl}
use Rattle.std.specs.Ordering.{nat_cmp, ordering_then}
use Rattle.std.specs.Coded.{Coded, code_by, coded×, coded_ℕ}
use Rattle.std.specs.declared.cmp.Ordering.{Ordering}

-- an address, below 2 ^ 32, and how many of its first bits count
pub record Network : Type 0 where
  pub address : ℕ
  pub length : ℕ

-- by address, and then by length
abbrev pub network_cmp : Network → Network → Ordering
network_cmp p q = ordering_then (nat_cmp p.address q.address) (nat_cmp p.length q.length)

-- a network, coded as a pair of numbers
abbrev pub network_code : Coded Network
network_code =
    code_by (ℕ × ℕ) (coded× coded_ℕ coded_ℕ) (λ p. (p.address, p.length)) (λ p. record { address = p.0; length = p.1 }) (λ _. refl)

-- a number of its own for each network
abbrev pub network_word : Network → ℕ
network_word p = p.address * 256 + p.length
