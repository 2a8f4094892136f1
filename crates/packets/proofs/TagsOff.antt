-- Tags are taken off one by one, and what is after them stays.
use Rattle.std.proofs.Common.{◌≡◌, ℕ, ◌<◌, List, [], ◌∷◌, ◌++◌, length, ap, sym, ◌∙◌, inl, inr, arith}
use Rattle.packets.specs.Frames.{IsBehindTag, IsBehindTags, IsBehindType, IsTagType, AreTags}

-- no tag begins with the EtherType of IPv4
no_type : (high low : ℕ) → IsTagType high low → high ≡ 0x08 → ⊥
no_type high low tagged e = elim tagged [ inl both ↦ omega arith | inr others ↦ elim others [ inl both ↦ omega arith | inr both ↦ omega arith ] ]

pub tag_on : (bytes rest packet : List ℕ) → IsBehindTag bytes rest → IsBehindTags rest packet → IsBehindTags bytes packet
tag_on bytes rest packet one behind = record {
  tags = one.high ∷ one.low ∷ one.third ∷ one.fourth ∷ behind.tags;
  tagged = (one.tagged, behind.tagged);
  whole = one.whole ∙ ap (λ (r : List ℕ). one.high ∷ one.low ∷ one.third ∷ one.fourth ∷ r) behind.whole;
}

off : (tags bytes rest packet : List ℕ) → IsBehindTag bytes rest → AreTags tags → bytes ≡ tags ++ 0x08 ∷ 0x00 ∷ packet → IsBehindTags rest packet
off [] bytes rest packet one tagged whole =
    let same : one.high ∷ one.low ∷ one.third ∷ one.fourth ∷ rest ≡ 0x08 ∷ 0x00 ∷ packet = sym one.whole ∙ whole in
    let first : one.high ≡ 0x08 = cc in
    absurd (no_type one.high one.low one.tagged first)
off (a ∷ []) bytes rest packet one tagged whole = absurd tagged
off (a ∷ b ∷ []) bytes rest packet one tagged whole = absurd tagged
off (a ∷ b ∷ c ∷ []) bytes rest packet one tagged whole = absurd tagged
off (a ∷ b ∷ c ∷ d ∷ tags) bytes rest packet one tagged whole =
    let same : one.high ∷ one.low ∷ one.third ∷ one.fourth ∷ rest ≡ a ∷ b ∷ c ∷ d ∷ (tags ++ 0x08 ∷ 0x00 ∷ packet) = sym one.whole ∙ whole in
    record { tags = tags; tagged = tagged.1; whole = cc }

pub tag_off : (bytes rest packet : List ℕ) → IsBehindTag bytes rest → IsBehindTags bytes packet → IsBehindTags rest packet
tag_off bytes rest packet one behind = off behind.tags bytes rest packet one behind.tagged behind.whole

none : (tags bytes packet : List ℕ) → ((rest : List ℕ) → IsBehindTag bytes rest → ⊥) → AreTags tags → bytes ≡ tags ++ 0x08 ∷ 0x00 ∷ packet → IsBehindType bytes packet
none [] bytes packet missing tagged whole = whole
none (a ∷ []) bytes packet missing tagged whole = absurd tagged
none (a ∷ b ∷ []) bytes packet missing tagged whole = absurd tagged
none (a ∷ b ∷ c ∷ []) bytes packet missing tagged whole = absurd tagged
none (a ∷ b ∷ c ∷ d ∷ tags) bytes packet missing tagged whole =
    absurd (missing (tags ++ 0x08 ∷ 0x00 ∷ packet) (record { high = a; low = b; third = c; fourth = d; tagged = tagged.0; whole = whole }))

-- where no tag is in front, there are none
pub no_tags : (bytes packet : List ℕ) → ((rest : List ℕ) → IsBehindTag bytes rest → ⊥) → IsBehindTags bytes packet → IsBehindType bytes packet
no_tags bytes packet missing behind = none behind.tags bytes packet missing behind.tagged behind.whole

pub empty_tags : (bytes packet : List ℕ) → IsBehindType bytes packet → IsBehindTags bytes packet
empty_tags bytes packet behind = record { tags = []; tagged = tt; whole = behind }

pub shorter : (bytes rest : List ℕ) → IsBehindTag bytes rest → length rest < length bytes
shorter bytes rest one =
    let longer : length bytes ≡ length (one.high ∷ one.low ∷ one.third ∷ one.fourth ∷ rest) = ap length one.whole in
    omega arith
