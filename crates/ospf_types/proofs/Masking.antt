-- Masking twice is masking once, and the networks around an address.
use Rattle.std.proofs.Common.{ℕ, ◌≡◌, ◌-◌, ◌*◌, ◌/◌, ◌^◌, ap, sym}
use Rattle.std.proofs.lemmas.Nat.{shl-shr}
use Rattle.ospf_types.specs.declared.prefix.Prefix.{Prefix}
use Rattle.ospf_types.specs.Address.{HasAddress, network_around}
use Rattle.ospf_types.specs.Masks.{masked}

pub masked-masked : (address length : ℕ) → masked (masked address length) length ≡ masked address length
masked-masked address length = ap (λ (n : ℕ). n * 2 ^ (32 - length)) (shl-shr (address / 2 ^ (32 - length)) (32 - length))

-- the one network of its length that has the address
pub is_around : (q : Prefix) (address : ℕ) → HasAddress q address → q ≡ network_around address q.length
is_around q address has = λ i. record { address = sym has i; length = q.length }
