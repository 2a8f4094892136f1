-- The layout of a frame that carries an IPv4 packet, by the link type of its capture.
use Rattle.std.specs.Borrow.{Bor}
use Rattle.std.specs.Prelude.{ℕ, ◌≡◌, ◌⊎◌, ◌↔◌, Option, Some, option_map, ◌/◌, List, [], ◌∷◌, ◌++◌, length, slice_index}

-- what is found, if anything is, is just what the relation says
abbrev pub Finds : Option (Bor (List ℕ)) → (List ℕ → Type 0) → Type 0
Finds found IsWanted = (bytes : List ℕ) → (option_map {T = Bor (List ℕ)} {U = List ℕ} (λ b. b.now) found ≡ Some bytes) ↔ IsWanted bytes

-- ---- EtherTypes and tags

-- the bytes are the EtherType of IPv4, 0x0800, and the packet
abbrev pub IsBehindType : List ℕ → List ℕ → Type 0
IsBehindType bytes packet = bytes ≡ 0x08 ∷ 0x00 ∷ packet

-- the EtherTypes of VLAN tags: 0x8100, 0x88a8 and 0x9100
abbrev pub IsTagType : ℕ → ℕ → Type 0
IsTagType high low = (high ≡ 0x81 × low ≡ 0x00) ⊎ (high ≡ 0x88 × low ≡ 0xa8) ⊎ (high ≡ 0x91 × low ≡ 0x00)

-- tags of 4 bytes, one after the other
abbrev pub AreTags : List ℕ → Type 0
AreTags [] = Unit
AreTags (a ∷ []) = ⊥
AreTags (a ∷ b ∷ []) = ⊥
AreTags (a ∷ b ∷ c ∷ []) = ⊥
AreTags (a ∷ b ∷ c ∷ d ∷ tags) = IsTagType a b × AreTags tags

-- the bytes are one tag, and what is after it
pub record IsBehindTag (bytes rest : List ℕ) : Type 0 where
  pub high : ℕ
  pub low : ℕ
  pub third : ℕ
  pub fourth : ℕ
  pub tagged : IsTagType high low
  pub whole : bytes ≡ high ∷ low ∷ third ∷ fourth ∷ rest

-- the bytes are any number of tags, the EtherType of IPv4, and the packet
pub record IsBehindTags (bytes packet : List ℕ) : Type 0 where
  pub tags : List ℕ
  pub tagged : AreTags tags
  pub whole : bytes ≡ tags ++ 0x08 ∷ 0x00 ∷ packet

-- ---- frames

-- the bytes are this many of no interest here, and the rest
pub record IsPast (count : ℕ) (bytes rest : List ℕ) : Type 0 where
  pub front : List ℕ
  pub many : length front ≡ count
  pub whole : bytes ≡ front ++ rest

-- one part of a frame, and the next one after it
abbrev pub Then : (List ℕ → List ℕ → Type 0) → (List ℕ → List ℕ → Type 0) → List ℕ → List ℕ → Type 0
Then First Second frame packet = (rest : List ℕ) × First frame rest × Second rest packet

-- two addresses of 6 bytes each, tags, the EtherType, and the packet
abbrev pub IsEthernet : List ℕ → List ℕ → Type 0
IsEthernet frame packet = Then (IsPast 12) IsBehindTags frame packet

-- 14 bytes on the sender, the EtherType, and the packet
abbrev pub IsCookedV1 : List ℕ → List ℕ → Type 0
IsCookedV1 frame packet = Then (IsPast 14) IsBehindType frame packet

-- the EtherType, 18 bytes on the sender, and the packet
abbrev pub IsCookedV2 : List ℕ → List ℕ → Type 0
IsCookedV2 frame packet = Then IsBehindType (IsPast 18) frame packet

-- the address family of IPv4, 2, in 4 bytes, and the packet
abbrev pub IsHighFirst : List ℕ → List ℕ → Type 0
IsHighFirst frame packet = frame ≡ 0 ∷ 0 ∷ 0 ∷ 2 ∷ packet

abbrev pub IsAnyFirst : List ℕ → List ℕ → Type 0
IsAnyFirst frame packet = IsHighFirst frame packet ⊎ (frame ≡ 2 ∷ 0 ∷ 0 ∷ 0 ∷ packet)

-- a packet whose version is 4
abbrev pub IsVersion4 : List ℕ → List ℕ → Type 0
IsVersion4 frame packet = (frame ≡ packet) × (slice_index packet 0 / 16 ≡ 4)
