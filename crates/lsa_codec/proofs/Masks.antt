-- A number is ones and then zeros exactly where it is the mask of as many ones as it has.
use Rattle.std.proofs.Common.{◌≡◌, ℕ, zero, suc, ◌+◌, ◌-◌, ◌*◌, ◌^◌, ◌<◌, ◌≤◌, true, refl, sym, ap, ◌∙◌, arith}
use Rattle.std.proofs.Math.Nat.{pow-suc, one-le-pow}
use Rattle.std.proofs.lemmas.Bool.{eq-eqb, eqb-true}
use Rattle.std.proofs.lemmas.Nat.{ones_cat, ones-le, pow-add}
use lib.Count.{ones, ones_in}
use Rattle.ospf_types.specs.Masks.{mask_length}
use Rattle.lsa_codec.specs.Spelling.{IsMask}
use Rattle.lsa_codec.specs.Faults.{is_mask}

abbrev mask_of : ℕ → ℕ
mask_of n = 2 ^ 32 - 2 ^ (32 - n)

ones_none : ones 0 ≡ 0
unfolding ones ones_in
ones_none = refl

ones_one : ones 1 ≡ 1
unfolding ones ones_in
ones_one = refl

-- a run of k ones
ones_run : (k : ℕ) → ones (2 ^ k - 1) ≡ k
ones_run zero = ones_none
ones_run (suc k) =
    let positive : 1 ≤ 2 ^ k = one-le-pow k 2 (omega arith) in
    let split : 2 ^ suc k - 1 ≡ (2 ^ k - 1) * 2 ^ 1 + 1 = omega (arith, pow-suc 2 k) in
    ap ones split ∙ ones_cat 1 (2 ^ k - 1) 1 (omega arith) ∙ omega (arith, ones_run k, ones_one)

from_product : (a b : ℕ) → 2 ^ 32 ≡ suc a * b → 2 ^ 32 - b ≡ a * b + 0
from_product a b whole = omega (arith, whole)

ones_of_mask : (k : ℕ) → k ≤ 32 → ones (mask_of k) ≡ k
ones_of_mask k le =
    let all : 32 ≡ k + (32 - k) = omega arith in
    let whole : 2 ^ 32 ≡ 2 ^ k * 2 ^ (32 - k) = ap (λ (n : ℕ). 2 ^ n) all ∙ pow-add 2 k (32 - k) in
    let positive : 1 ≤ 2 ^ k = one-le-pow k 2 (omega arith) in
    let rest : 1 ≤ 2 ^ (32 - k) = one-le-pow (32 - k) 2 (omega arith) in
    let one_less : 2 ^ k ≡ suc (2 ^ k - 1) = omega arith in
    let split : mask_of k ≡ (2 ^ k - 1) * 2 ^ (32 - k) + 0 = from_product (2 ^ k - 1) (2 ^ (32 - k)) (whole ∙ ap (λ (n : ℕ). n * 2 ^ (32 - k)) one_less) in
    ap ones split ∙ ones_cat (32 - k) (2 ^ k - 1) 0 rest ∙ omega (arith, ones_run k, ones_none)

pub test-from_IsMask : (mask : ℕ) → IsMask mask → is_mask mask ≡ true
test-from_IsMask mask h =
    let same : mask_length mask ≡ h.0 = ap ones h.2 ∙ ones_of_mask h.0 h.1 in
    eq-eqb _ _ (h.2 ∙ ap mask_of (sym same))

pub IsMask-from_test : (mask : ℕ) → mask < 2 ^ 32 → is_mask mask ≡ true → IsMask mask
IsMask-from_test mask lt e = (mask_length mask, ones-le 32 mask lt, eqb-true _ _ e)

pub IsMask-fits : (mask : ℕ) → IsMask mask → mask < 2 ^ 32
IsMask-fits mask h =
    let rest : 1 ≤ 2 ^ (32 - h.0) = one-le-pow (32 - h.0) 2 (omega arith) in
    omega (arith, h.2)
