use Rattle.std.proofs.Common.{◌≡◌, ◌^◌, ◌+◌, ◌-◌, ◌*◌, ◌≤◌, ◌<◌, ap, arith, ℕ}
use Rattle.std.proofs.lemmas.Nat.{pow-add, pow_pos}
use Rattle.prefix_index.proofs.slots.bits_for.Goals as goal

-- eight homes and more
eight : (bits : ℕ) → 3 ≤ bits → 8 ≤ 2 ^ bits
eight bits low =
    let power : 2 ^ (bits - 3 + 3) ≡ 2 ^ (bits - 3) * 2 ^ 3 = pow-add 2 (bits - 3) 3 in
    let some : 0 < 2 ^ (bits - 3) = pow_pos (bits - 3) in
    let whole : 2 ^ (bits - 3 + 3) ≡ 2 ^ bits = ap (λ (n : ℕ). 2 ^ n) (omega arith) in
    omega (arith, power, some, whole)

pub returns-then-count-homes : goal.returns-then-count-homes
returns-then-count-homes c =
    let least = eight c.loop-bits.bits (omega arith) in
    let homes = c.homes.ensures.value in
    (omega arith, omega arith, omega (arith, least, homes, c.if-count-homes.true), c.loop-bits.invariant)
