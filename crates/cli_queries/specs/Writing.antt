-- The number or the network that a word writes.
use Rattle.std.specs.Prelude.{ℕ, ◌≡◌, ◌≢◌, ◌^◌, ◌<◌, ◌≤◌, List, decimal, length, slice_index}
use Rattle.ospf_types.specs.declared.prefix.Prefix.{Prefix}
use Rattle.ospf_types.specs.Masks.{masked}
use Rattle.ospf_types.specs.Text.{prefix_text}

-- the word is the number in decimal digits, which has 32 bits
pub record WritesNumber (word : List ℕ) (n : ℕ) : Type 0 where
  pub within : n < 2 ^ 32
  pub spelled : word ≡ decimal n

-- the address has 32 bits, and those past the length are zero
pub record IsNetworkWord (p : Prefix) : Type 0 where
  pub address : p.address < 2 ^ 32
  pub length : p.length ≤ 32
  pub masked : masked p.address p.length ≡ p.address

-- the word is the text of the network
pub record WritesNetwork (word : List ℕ) (p : Prefix) : Type 0 where
  pub network : IsNetworkWord p
  pub spelled : word ≡ prefix_text p

abbrev pub network_at : ℕ → ℕ → Prefix
network_at address length = record { address = address; length = length }

-- it is a network, and the one with this address and length
abbrev pub IsNetworkOf : ℕ → ℕ → Prefix → Type 0
IsNetworkOf address length p = IsNetworkWord p × (p ≡ network_at address length)

-- there is a digit, and neither a plus sign nor a zero before one
pub record IsUnpadded (word : List ℕ) : Type 0 where
  pub some : 0 < length word
  pub unsigned : slice_index word 0 ≢ 43
  pub alone : slice_index word 0 ≡ 48 → length word ≡ 1
