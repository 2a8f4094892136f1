-- The derived order of the members of groups, and what is between two groups.
use Rattle.std.proofs.Common.{◌≡◌, ℕ, ◌≤◌, true, Ordering, refl, sym, ap, subst, ◌∙◌, arith}
use Rattle.std.specs.declared.cmp.Ordering.TheVariants.{Less, Equal, Greater}
use Rattle.std.specs.Ordering.{ordering_then, ordering_reverse, is_le}
use Rattle.std.specs.Cmp.{nat_cmp_total}
use Rattle.std.proofs.lemmas.Map.Lookups.{CmpEqualImpliesEq, exact_pairs, exact_unsigned}
use Rattle.ospf_types.specs.declared.key.Key.{Key}
use Rattle.ospf_types.specs.Keys.{key_cmp}
use Rattle.ospf_types.proofs.DerivedOrders.{dest_cmp_is}
use Rattle.ospf_types.proofs.Orders.{dest_total, dest_exact, key_total, key_exact}
use Rattle.advertised_index.specs.declared.index_key.IndexKey.{IndexKey}
use Rattle.advertised_index.specs.declared.index_key.IndexKey.TheVariants.{To, By, Forwarded}
use Rattle.advertised_index.specs.contracts.index_key.IndexKeyOrd.TheImpl as group_order
use Rattle.advertised_index.specs.LsasByKey.{group_cmp, IsNotAfter}

abbrev pub Member : Type 0
Member = IndexKey × Key

abbrev pub member_cmp : Member → Member → Ordering
member_cmp a b = ordering_then (group_cmp a.0 b.0) (key_cmp a.1 b.1)

-- by the derived order of groups
abbrev pub derived_cmp : Member → Member → Ordering
derived_cmp a b = ordering_then (group_order.ghosts.cmp a.0 b.0) (key_cmp a.1 b.1)

-- ---- the derived orders are these

group_order_at : (g h : IndexKey) → group_order.ghosts.cmp g h ≡ group_cmp g h
group_order_at (To d) (To e) = λ i. dest_cmp_is i d e
group_order_at (To d) (By s) = refl
group_order_at (To d) (Forwarded b) = refl
group_order_at (By r) (To e) = refl
group_order_at (By r) (By s) = refl
group_order_at (By r) (Forwarded b) = refl
group_order_at (Forwarded a) (To e) = refl
group_order_at (Forwarded a) (By s) = refl
group_order_at (Forwarded a) (Forwarded b) = refl

pub derived_cmp_is : derived_cmp ≡ member_cmp
derived_cmp_is i a b = ordering_then (group_order_at a.0 b.0 i) (key_cmp a.1 b.1)

-- ---- only equal members tie

group_exact : CmpEqualImpliesEq group_cmp
group_exact (To d) (To e) tied = ap To (dest_exact d e tied)
group_exact (To d) (By s) tied = absurd cc
group_exact (To d) (Forwarded b) tied = absurd cc
group_exact (By r) (To e) tied = absurd cc
group_exact (By r) (By s) tied = ap By (exact_unsigned r s tied)
group_exact (By r) (Forwarded b) tied = absurd cc
group_exact (Forwarded a) (To e) tied = absurd cc
group_exact (Forwarded a) (By s) tied = absurd cc
group_exact (Forwarded a) (Forwarded b) tied = ap Forwarded (exact_unsigned a b tied)

member_exact : CmpEqualImpliesEq member_cmp
member_exact a b tied = exact_pairs group_cmp key_cmp group_exact key_exact a b tied

pub derived_exact : CmpEqualImpliesEq derived_cmp
derived_exact = subst (λ (R : Member → Member → Ordering). CmpEqualImpliesEq R) (sym derived_cmp_is) member_exact

-- ---- the order of groups, turned round

pub group_turned : (g h : IndexKey) → group_cmp g h ≡ ordering_reverse (group_cmp h g)
group_turned (To d) (To e) = dest_total.antisymm d e
group_turned (To d) (By s) = refl
group_turned (To d) (Forwarded b) = refl
group_turned (By r) (To e) = refl
group_turned (By r) (By s) = nat_cmp_total.antisymm r s
group_turned (By r) (Forwarded b) = refl
group_turned (Forwarded a) (To e) = refl
group_turned (Forwarded a) (By s) = refl
group_turned (Forwarded a) (Forwarded b) = nat_cmp_total.antisymm a b

own_turn : (o : Ordering) → o ≡ ordering_reverse o → is_le o ≡ true
own_turn Less e = refl
own_turn Equal e = refl
own_turn Greater e = absurd cc

-- a group is not after itself
pub not_after_itself : (g : IndexKey) → IsNotAfter g g
not_after_itself g = own_turn (group_cmp g g) (group_turned g g)

-- a member ties with itself
tied_turn : (o : Ordering) → o ≡ ordering_reverse o → o ≡ Equal
tied_turn Less e = absurd cc
tied_turn Equal e = refl
tied_turn Greater e = absurd cc

member_ties : (m : Member) → member_cmp m m ≡ Equal
member_ties m =
    let groups : group_cmp m.0 m.0 ≡ Equal = tied_turn (group_cmp m.0 m.0) (group_turned m.0 m.0) in
    let keys : key_cmp m.1 m.1 ≡ Equal = tied_turn (key_cmp m.1 m.1) (key_total.antisymm m.1 m.1) in
    λ i. ordering_then (groups i) (keys i)

pub derived_ties : (m : Member) → derived_cmp m m ≡ Equal
derived_ties m = (λ i. derived_cmp_is i m m) ∙ member_ties m

-- of two groups neither is after the other
level : (o : Ordering) → is_le o ≡ true → is_le (ordering_reverse o) ≡ true → o ≡ Equal
level Less le turned = absurd cc
level Equal le turned = refl
level Greater le turned = absurd cc

pub neither_after : (g h : IndexKey) → IsNotAfter g h → IsNotAfter h g → h ≡ g
neither_after g h one other = group_exact h g (level (group_cmp h g) other (sym (ap is_le (group_turned g h)) ∙ one))

-- addresses are in the order of their numbers
pub not_after : (a b : ℕ) → a ≤ b → IsNotAfter (Forwarded a) (Forwarded b)
not_after a b le = grind (arith, le)
