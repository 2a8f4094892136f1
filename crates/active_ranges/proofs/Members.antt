-- The order of members, and what a tree of them has.
use Rattle.std.proofs.Common.{◌≡◌, ◌≢◌, ℕ, false, Option, Some, None, Ordering, refl, sym, ap, subst, ◌∙◌, arith}
use Rattle.std.specs.Prelude.{IsSome}
use Rattle.std.specs.declared.cmp.Ordering.TheVariants.{Less, Equal, Greater}
use Rattle.std.specs.Ordering.{nat_cmp, ordering_then, ordering_reverse, is_gt}
use Rattle.std.specs.Cmp.{IsTotalOrder, nat_cmp_total}
use Rattle.std.proofs.lemmas.Cmp.{on_total, then_total}
use Rattle.std.proofs.lemmas.Map.Lookups.{CmpEqualImpliesEq, exact_pairs, exact_unsigned}
use Rattle.ospf_types.specs.declared.prefix.Prefix.{Prefix}
use Rattle.ospf_types.specs.Network.{network_cmp}
use Rattle.ospf_types.proofs.Orders.{network_total, network_exact}
use Rattle.active_ranges.specs.Active.{member_cmp}
use Rattle.active_ranges.specs.declared.member.RangeMember.{RangeMember}

pub member_total : IsTotalOrder member_cmp
member_total = then_total (on_total (λ m. m.range) network_total) (then_total (on_total (λ m. m.area) nat_cmp_total) (on_total (λ m. m.network) network_total))

abbrev Triple : Type 0
Triple = Prefix × (ℕ × Prefix)

pub member_exact : CmpEqualImpliesEq member_cmp
member_exact a b h =
    ap (λ (t : Triple). let m : RangeMember = record { range = t.0; area = t.1.0; network = t.1.1 } in m)
    (exact_pairs network_cmp (λ (x y : ℕ × Prefix). ordering_then (nat_cmp x.0 y.0) (network_cmp x.1 y.1)) network_exact (exact_pairs nat_cmp network_cmp exact_unsigned network_exact) (a.range, (a.area, a.network)) (b.range, (b.area, b.network)) h)

-- ---- orders that are one after the other

pub not_greater : (a b : Ordering) → is_gt a ≡ false → is_gt b ≡ false → is_gt (ordering_then a b) ≡ false
not_greater Less b first second = refl
not_greater Equal b first second = second
not_greater Greater b first second = first

pub zero_least : (n : ℕ) → is_gt (nat_cmp 0 n) ≡ false
zero_least n = grind arith

-- what is first in an order decides
pub not_first : (a b : Ordering) → is_gt (ordering_then a b) ≡ false → a ≢ Greater
not_first a b is greater = let e : is_gt (ordering_then Greater b) ≡ false = subst (λ (o : Ordering). is_gt (ordering_then o b) ≡ false) greater is in cc

-- what is no greater than each other is one
pub same_one : {K : Type 0} {R : K → K → Ordering} → IsTotalOrder R → CmpEqualImpliesEq R → (p q : K) → R p q ≢ Greater → R q p ≢ Greater → q ≡ p
same_one {R = R} total exact p q low high =
    elim (R p q) as (λ o. R p q ≡ o → q ≡ p) [
      | Less ↦ λ e. absurd (high (total.antisymm q p ∙ ap ordering_reverse e))
      | Equal ↦ λ e. sym (exact p q e)
      | Greater ↦ λ e. absurd (low e)
    ] refl

-- a value, where there is one
pub some_value : {A : Type 0} (o : Option A) → IsSome o → (x : A) × (o ≡ Some x)
some_value None some = absurd cc
some_value (Some x) some = (x, refl)
