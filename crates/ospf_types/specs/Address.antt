-- Which addresses and networks a network contains (RFC 2328, 11.1).
use Rattle.std.specs.Prelude.{ℕ, ◌≡◌, ◌≤◌}
use Rattle.ospf_types.specs.declared.prefix.Prefix.{Prefix}
use Rattle.ospf_types.specs.Masks.{masked}

-- the network contains the address: they agree in its first bits
abbrev pub HasAddress : Prefix → ℕ → Type 0
HasAddress p address = masked address p.length ≡ p.address

-- the network of that length that contains the address
abbrev pub network_around : (address length : ℕ) → Prefix
network_around address length = record { address = masked address length; length = length }

-- the outer network contains the inner one, which is as long or longer
pub record Covers (outer inner : Prefix) : Type 0 where
  pub longer : outer.length ≤ inner.length
  pub inside : HasAddress outer inner.address
