-- The last address of a network is a number of 32 bits.
use Rattle.std.proofs.Common.{◌≡◌, ℕ, ◌+◌, ◌-◌, ◌*◌, ◌/◌, ◌%◌, ◌^◌, ◌<◌, ◌≤◌, sym, ap, subst, ◌∙◌, arith}
use Rattle.std.proofs.Math.Nat.{lt_of_mul-lt-mul_right, mul-le-mul_right}
use Rattle.std.proofs.Math.Pow.{pow-lt}
use Rattle.std.proofs.lemmas.Nat.{pow-add}
use Rattle.ospf_types.specs.Masks.{masked}

-- with h bits for hosts
below_all : (q h l address : ℕ) → l + h ≡ 32 → address < 2 ^ 32 → q * 2 ^ h ≡ address → address + 2 ^ h ≤ 2 ^ 32
below_all q h l address bits small is =
    let whole : 2 ^ l * 2 ^ h ≡ 2 ^ 32 = sym (pow-add 2 l h) ∙ ap (λ n. 2 ^ n) bits in
    let below : q * 2 ^ h < 2 ^ l * 2 ^ h = subst (λ n. n < 2 ^ l * 2 ^ h) (sym is) (subst (λ n. address < n) (sym whole) small) in
    let more : (q + 1) * 2 ^ h ≤ 2 ^ l * 2 ^ h = mul-le-mul_right (2 ^ h) (omega (arith, lt_of_mul-lt-mul_right (2 ^ h) below)) in
    omega (arith, is, whole, more)

pub last_small : (address length l : ℕ) → l ≡ length → length ≤ 32 → (32 - l ≡ 32 → ⊥) → address < 2 ^ 32 → masked address length ≡ address
    → address + (1 * 2 ^ (32 - l) % 4294967296 - 1) < 2 ^ 32
last_small address length l same bound some small is =
    let h = 32 - l in
    let host : h < 32 = omega (arith, some) in
    let short : 2 ^ h < 2 ^ 32 = pow-lt host in
    let all : address + 2 ^ h ≤ 2 ^ 32 = below_all (address / 2 ^ h) h l address (omega (arith, same, bound)) small (subst (λ n. address / 2 ^ (32 - n) * 2 ^ (32 - n) ≡ address) (sym same) is) in
    omega (arith, short, all)
