-- The numbers of entries.
use Rattle.std.proofs.Common.{◌%◌, ◌≡◌, ◌≢◌, ℕ, ◌+◌, ◌-◌, ◌*◌, ◌/◌, ◌^◌, ◌<◌, ◌≤◌, sym, ap, subst, ◌∙◌, arith}
use Rattle.std.proofs.lemmas.Nat.{pow-add, shr_below, mul-le, same_from_place, mod-mul-add}
use Rattle.ospf_types.specs.Network.{Network, network_word}
use Rattle.ospf_types.specs.Words.{mixed}
use Rattle.ospf_types.specs.declared.hasher.WordHash.{WordHash}
use Rattle.prefix_index.specs.Slots.{base_of}

-- a tag leaves room for a place below it
pub tag_fits : (h bits : ℕ) → h < 2 ^ 64 → bits ≤ 31 → h / 2 ^ 32 / 2 ^ bits * 2 ^ bits + 2 ^ bits ≤ 2 ^ 32
tag_fits h bits fits small =
    let rest : ℕ = 32 - bits in
    let whole : rest + bits ≡ 32 = omega arith in
    let high : h / 2 ^ 32 < 2 ^ 32 = shr_below h 32 32 fits in
    let tag : h / 2 ^ 32 / 2 ^ bits < 2 ^ rest = shr_below (h / 2 ^ 32) rest bits (subst (λ (n : ℕ). h / 2 ^ 32 < 2 ^ n) (sym whole) high) in
    let product : (h / 2 ^ 32 / 2 ^ bits + 1) * 2 ^ bits ≤ 2 ^ rest * 2 ^ bits = mul-le (h / 2 ^ 32 / 2 ^ bits + 1) (2 ^ bits) (2 ^ rest) (2 ^ bits) (omega arith) (omega arith) in
    let power : 2 ^ rest * 2 ^ bits ≡ 2 ^ 32 = sym (pow-add 2 rest bits) ∙ ap (λ (n : ℕ). 2 ^ n) whole in
    omega (arith, product, power)

-- entries at different places have different numbers
pub other_number : (hashing : WordHash) (bits : ℕ) (p q : Network) (i j : ℕ) → i + 2 ≤ 2 ^ bits → j + 2 ≤ 2 ^ bits → i ≢ j → base_of hashing bits p + i ≢ base_of hashing bits q + j
unfolding base_of
other_number hashing bits p q i j first second other same =
    let a : ℕ = mixed hashing.multiplier hashing.start (network_word p) / 2 ^ 32 / 2 ^ bits in
    let b : ℕ = mixed hashing.multiplier hashing.start (network_word q) / 2 ^ 32 / 2 ^ bits in
    let less : a * 2 ^ bits + i ≡ b * 2 ^ bits + j = omega (arith, same) in
    other (same_from_place a i b j (2 ^ bits) (omega arith) (omega arith) less).1

-- no number belongs to an empty slot or of one whose entry is gone
pub some_number : (hashing : WordHash) (bits : ℕ) (p : Network) (i : ℕ) → 2 ≤ base_of hashing bits p + i
unfolding base_of
some_number hashing bits p i = omega arith

-- the place that a number gives
pub place_back : (n base i : ℕ) → n < 2 ^ 32 → n ≡ base + i → (n + (2 ^ 64 - base)) % 2 ^ 64 ≡ i
place_back n base i fits is =
    let whole : n + (2 ^ 64 - base) ≡ 1 * 2 ^ 64 + i = omega arith in
    ap (λ (m : ℕ). m % 2 ^ 64) whole ∙ mod-mul-add 1 (2 ^ 64) i (omega arith)
