-- A network is an interval of addresses.
use Rattle.std.proofs.Common.{◌≡◌, ℕ, ◌+◌, ◌-◌, ◌*◌, ◌/◌, ◌%◌, ◌^◌, ◌<◌, ◌≤◌, sym, ap, ◌∙◌, inl, inr, arith}
use Rattle.std.proofs.lemmas.Nat.{pow-add, pow_pos, shl-shr, shr_split, shr_high, mod_below}
use Rattle.std.proofs.lemmas.Bool.{cases_lt}
use Rattle.std.proofs.Math.Nat.{mul_assoc}
use Rattle.ospf_types.specs.Masks.{masked}

-- the network of an address begins at it or below
pub begins_below : (c length : ℕ) → masked c length ≤ c
begins_below c length = omega (arith, shr_split c (32 - length))

-- what lies between a network's first address and one of its addresses is in it
pub lies_between : (a b c length : ℕ) → masked c length ≡ a → a ≤ b → b ≤ c → masked b length ≡ a
lies_between a b c length is low high =
    let k : ℕ = 32 - length in
    let split : c / 2 ^ k * 2 ^ k + c % 2 ^ k ≡ c = shr_split c k in
    let rest : c % 2 ^ k < 2 ^ k = mod_below c (2 ^ k) (pow_pos k) in
    let parts : b ≡ c / 2 ^ k * 2 ^ k + (b - a) = omega arith in
    ap (λ (n : ℕ). n / 2 ^ k * 2 ^ k) parts ∙ ap (λ (n : ℕ). n * 2 ^ k) (shr_high (c / 2 ^ k) k (b - a) (omega arith)) ∙ is

-- what is a multiple of a power of two is one of each lower power
multiple : (q j k : ℕ) → q * 2 ^ (j + k) / 2 ^ k * 2 ^ k ≡ q * 2 ^ (j + k)
multiple q j k =
    let parts : q * 2 ^ (j + k) ≡ q * 2 ^ j * 2 ^ k = ap (λ (n : ℕ). q * n) (pow-add 2 j k) ∙ sym (mul_assoc q (2 ^ j) (2 ^ k)) in
    ap (λ (n : ℕ). n / 2 ^ k * 2 ^ k) parts ∙ ap (λ (n : ℕ). n * 2 ^ k) (shl-shr (q * 2 ^ j) k) ∙ sym parts

-- where a network of a shorter length begins, one of a longer length may begin
pub begins_finer : (b short long : ℕ) → short < long → masked b short ≡ b → masked b long ≡ b
begins_finer b short long lt is =
    let j : ℕ = (32 - short) - (32 - long) in
    let sizes : 32 - short ≡ j + (32 - long) = omega arith in
    let start : b ≡ b / 2 ^ (32 - short) * 2 ^ (j + (32 - long)) = sym is ∙ ap (λ (n : ℕ). b / 2 ^ (32 - short) * 2 ^ n) sizes in
    ap (λ (n : ℕ). masked n long) start ∙ multiple (b / 2 ^ (32 - short)) j (32 - long) ∙ sym start

-- a network that begins inside another one, past its first address, is not the shorter
pub not_shorter : (a b outer inner : ℕ) → masked b outer ≡ a → a < b → masked b inner ≡ b → outer ≤ inner
not_shorter a b outer inner is past own = elim (cases_lt inner outer) [
  | inl lt ↦ absurd (omega (arith, begins_finer b inner outer lt own))
  | inr le ↦ le
]
