use Rattle.std.proofs.Common.{◌≡◌, ℕ, ◌+◌, ◌-◌, ◌*◌, ◌/◌, ◌%◌, ◌^◌, ◌≤◌, ap, subst, ◌∙◌, bit_and, arith}
use Rattle.std.proofs.lemmas.Nat.{and_mask}
use Rattle.std.proofs.Math.Nat.{mod-add-div'}
use Rattle.prefix_index.proofs.Numbers.{tag_fits}
use Rattle.prefix_index.proofs.home_bits.HomeBits.tag.Goals as goal

-- a number without its lowest bits
without : (n m k : ℕ) → m ≡ 2 ^ k - 1 → n - bit_and n m ≡ n / 2 ^ k * 2 ^ k
without n m k is =
    let low : bit_and n m ≡ n % 2 ^ k = ap (bit_and n) is ∙ and_mask n k in
    let whole : n % 2 ^ k + n / 2 ^ k * 2 ^ k ≡ n = mod-add-div' n (2 ^ k) in
    omega (arith, low, whole)

pub returns-clause-value : goal.returns-clause-value
returns-clause-value c = without (c.args.hash / 2 ^ 32) c.self.inside.mask c.args.self (c.self.invariant.1 ∙ ap (λ (n : ℕ). 2 ^ n - 1) c.self.view_is)

pub returns-clause-room : goal.returns-clause-room
returns-clause-room c =
    let value : c.args.hash / 2 ^ 32 - bit_and (c.args.hash / 2 ^ 32) c.self.inside.mask ≡ c.args.hash / 2 ^ 32 / 2 ^ c.args.self * 2 ^ c.args.self =
    without (c.args.hash / 2 ^ 32) c.self.inside.mask c.args.self (c.self.invariant.1 ∙ ap (λ (n : ℕ). 2 ^ n - 1) c.self.view_is) in
    let room : c.args.hash / 2 ^ 32 / 2 ^ c.args.self * 2 ^ c.args.self + 2 ^ c.args.self ≤ 2 ^ 32 =
    tag_fits c.args.hash c.args.self (omega (arith, c.ranges.hash)) (subst (λ (n : ℕ). n ≤ 31) c.self.view_is c.self.invariant.0) in
    omega (arith, value, room)
