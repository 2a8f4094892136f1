-- The greatest of some numbers, where there are any.
use Rattle.std.proofs.Common.{◌≡◌, ℕ, ◌≤◌, cond, Bool, true, false, Option, Some, None, refl, sym, ap, ◌∙◌, ◌⊎◌, inl, inr, arith}
use Rattle.std.specs.Prelude.{◌↔◌}
use Rattle.std.specs.Option.{option_cmp}
use Rattle.std.specs.Ordering.{nat_cmp, is_lt, ord_max}
use Rattle.ospf_types.specs.Summaries.{IsGreatest}

-- it is as great
abbrev pub IsReached : Option ℕ → ℕ → Type 0
IsReached most n = (m : ℕ) × (most ≡ Some m) × (n ≤ m)

-- one of the numbers that is as great as each is the greatest
pub is_greatest : (P : ℕ → Type 0) (most : Option ℕ) → ((n : ℕ) → most ≡ Some n → P n) → ((n : ℕ) → P n → IsReached most n) → (n : ℕ) → (most ≡ Some n) ↔ IsGreatest P n
is_greatest P most found reached n = (
  λ is. record {
    holds = found n is;
    greatest = λ m p.
        let r = reached m p in
        let le : m ≤ r.0 = r.2 in
        let same : Some r.0 ≡ Some n = sym r.1 ∙ is in
        grind (arith, le, same);
  },
  λ g.
      let r = reached n g.holds in
      let low : n ≤ r.0 = r.2 in
      let high : r.0 ≤ n = g.greatest r.0 (found r.0 r.1) in
      let same : r.0 ≡ n = omega (arith, low, high) in
      r.1 ∙ ap Some same,
)

-- ---- the greater of two

abbrev pub greater : Option ℕ → Option ℕ → Option ℕ
greater a b = ord_max (option_cmp nat_cmp) a b

one_of : {A : Type 0} (t : Bool) (a b c : A) → cond t a b ≡ c → (a ≡ c) ⊎ (b ≡ c)
one_of true a b c is = inl is
one_of false a b c is = inr is

-- it is one of them
pub greater_one : (a b : Option ℕ) (n : ℕ) → greater a b ≡ Some n → (a ≡ Some n) ⊎ (b ≡ Some n)
greater_one a b n is = one_of (is_lt (option_cmp nat_cmp b a)) a b (Some n) is

at_least : (x y n : ℕ) → (n ≤ x) ⊎ (n ≤ y) → IsReached (greater (Some x) (Some y)) n
at_least x y n le =
    elim (is_lt (nat_cmp y x)) as (λ t. is_lt (nat_cmp y x) ≡ t → IsReached (cond t (Some x) (Some y)) n) [
      | true ↦ λ is. (x, refl, elim le [ inl low ↦ low | inr low ↦ grind (arith, is, low) ])
      | false ↦ λ is. (y, refl, elim le [ inl low ↦ grind (arith, is, low) | inr low ↦ low ])
    ] refl

-- and as great as each
pub greater_left : (a b : Option ℕ) (n : ℕ) → IsReached a n → IsReached (greater a b) n
greater_left None b n r = absurd (let wrong : None ≡ Some r.0 = r.1 in cc)
greater_left (Some x) None n r = r
greater_left (Some x) (Some y) n r = let low : n ≤ r.0 = r.2 in let same : Some x ≡ Some r.0 = r.1 in at_least x y n (inl (grind (arith, low, same)))

pub greater_right : (a b : Option ℕ) (n : ℕ) → IsReached b n → IsReached (greater a b) n
greater_right a None n r = absurd (let wrong : None ≡ Some r.0 = r.1 in cc)
greater_right None (Some y) n r = r
greater_right (Some x) (Some y) n r = let low : n ≤ r.0 = r.2 in let same : Some y ≡ Some r.0 = r.1 in at_least x y n (inr (grind (arith, low, same)))
