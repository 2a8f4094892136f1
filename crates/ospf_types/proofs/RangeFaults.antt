-- Where one range is set or dropped, no two overlap that did not before, and there are no more than
-- there may be.
use Rattle.std.proofs.Common.{◌≡◌, ℕ, ◌+◌, ◌≤◌, Bool, cond, true, false, List, [], ◌∷◌, length, map, refl, sym, ap, ◌∙◌, arith}
use Rattle.std.specs.Prelude.{◌||◌, ◌&&◌, ◌==◌, not}
use Rattle.std.specs.List.{list_any}
use Rattle.std.specs.Ordering.{is_lt}
use Rattle.std.proofs.lemmas.Bool.{and_parts, eqb-true}
use Rattle.ospf_types.specs.declared.config.Range.{Range}
use Rattle.ospf_types.specs.declared.prefix.Prefix.{Prefix}
use Rattle.ospf_types.specs.Network.{network_cmp}
use Rattle.ospf_types.specs.RangeChanges.{is_same_prefix, has_range, in_place, in_order, set_range, drop_range}
use Rattle.ospf_types.specs.Configs.{is_cover, is_overlap, has_overlap}
use Rattle.ospf_types.specs.Overlaps.{overlaps_another}

either : (a b : Bool) → (a || b) ≡ (b || a)
either true true = refl
either true false = refl
either false true = refl
either false false = refl

left_false : (a b : Bool) → (a || b) ≡ false → a ≡ false
left_false true b h = absurd cc
left_false false b h = refl

right_false : (a b : Bool) → (a || b) ≡ false → b ≡ false
right_false true b h = absurd cc
right_false false b h = h

both_false : (a b : Bool) → a ≡ false → b ≡ false → (a || b) ≡ false
both_false true b x y = absurd cc
both_false false b x y = y

-- what one of two is, where both have a property
one_of : {A : Type 0} (b : Bool) (x y : A) (P : A → Type 0) → (b ≡ true → P x) → (b ≡ false → P y) → P (cond b x y)
one_of true x y P first second = first refl
one_of false x y P first second = second refl

same_prefix : (p q : Prefix) → is_same_prefix p q ≡ true → p ≡ q
same_prefix p q is =
    let parts = and_parts (p.address == q.address) (p.length == q.length) is in
    λ i. record { address = eqb-true p.address q.address parts.0 i; length = eqb-true p.length q.length parts.1 i }

overlap_back : (a b : Range) → is_overlap a b ≡ is_overlap b a
overlap_back a b = either (is_cover a.prefix b.prefix) (is_cover b.prefix a.prefix)

-- ---- a range that is replaced

place_kept : (r other : Range) → (in_place r other).prefix ≡ other.prefix
place_kept r other = one_of (is_same_prefix r.prefix other.prefix) r other (λ (x : Range). x.prefix ≡ other.prefix) (λ is. same_prefix r.prefix other.prefix is) (λ is. refl)

overlap_by : (a b c : Range) → b.prefix ≡ c.prefix → is_overlap a b ≡ is_overlap a c
overlap_by a b c same = ap (λ (p : Prefix). is_cover a.prefix p || is_cover p a.prefix) same

any_replaced : (r a b : Range) (ranges : List Range) → a.prefix ≡ b.prefix → list_any (is_overlap a) (map (in_place r) ranges) ≡ list_any (is_overlap b) ranges
any_replaced r a b [] same = refl
any_replaced r a b (other ∷ ranges) same =
    let first : is_overlap a (in_place r other) ≡ is_overlap b other =
    overlap_by a (in_place r other) other (place_kept r other) ∙ ap (λ (p : Prefix). is_cover p other.prefix || is_cover other.prefix p) same in
    λ i. first i || any_replaced r a b ranges same i

overlap_replaced : (r : Range) (ranges : List Range) → has_overlap (map (in_place r) ranges) ≡ has_overlap ranges
overlap_replaced r [] = refl
overlap_replaced r (other ∷ ranges) = λ i. any_replaced r (in_place r other) other ranges (place_kept r other) i || overlap_replaced r ranges i

long_replaced : (r : Range) (ranges : List Range) → length (map (in_place r) ranges) ≡ length ranges
long_replaced r [] = refl
long_replaced r (other ∷ ranges) = omega (arith, long_replaced r ranges)

-- ---- a range that is added

any_added : (r : Range) (test : Range → Bool) (ranges : List Range) → test r ≡ false → list_any test ranges ≡ false → list_any test (in_order r ranges) ≡ false
any_added r test [] one none = both_false (test r) false one refl
any_added r test (other ∷ ranges) one none =
    let here = left_false (test other) (list_any test ranges) none in
    let later = right_false (test other) (list_any test ranges) none in
    one_of (is_lt (network_cmp r.prefix other.prefix)) (r ∷ other ∷ ranges) (other ∷ in_order r ranges) (λ (rs : List Range). list_any test rs ≡ false)
    (λ is. both_false (test r) (list_any test (other ∷ ranges)) one none)
    (λ is. both_false (test other) (list_any test (in_order r ranges)) here (any_added r test ranges one later))

overlap_added : (r : Range) (ranges : List Range) → list_any (is_overlap r) ranges ≡ false → has_overlap ranges ≡ false → has_overlap (in_order r ranges) ≡ false
overlap_added r [] clear none = refl
overlap_added r (other ∷ ranges) clear none =
    let here = left_false (is_overlap r other) (list_any (is_overlap r) ranges) clear in
    let later = right_false (is_overlap r other) (list_any (is_overlap r) ranges) clear in
    let apart = left_false (list_any (is_overlap other) ranges) (has_overlap ranges) none in
    let rest = right_false (list_any (is_overlap other) ranges) (has_overlap ranges) none in
    one_of (is_lt (network_cmp r.prefix other.prefix)) (r ∷ other ∷ ranges) (other ∷ in_order r ranges) (λ (rs : List Range). has_overlap rs ≡ false)
    (λ is. both_false (list_any (is_overlap r) (other ∷ ranges)) (has_overlap (other ∷ ranges)) clear none)
    (λ is. both_false (list_any (is_overlap other) (in_order r ranges)) (has_overlap (in_order r ranges)) (any_added r (is_overlap other) ranges (overlap_back other r ∙ here) apart) (overlap_added r ranges later rest))

long_added : (r : Range) (ranges : List Range) → length (in_order r ranges) ≡ length ranges + 1
long_added r [] = refl
long_added r (other ∷ ranges) =
    one_of (is_lt (network_cmp r.prefix other.prefix)) (r ∷ other ∷ ranges) (other ∷ in_order r ranges) (λ (rs : List Range). length rs ≡ length (other ∷ ranges) + 1)
    (λ is. omega arith)
    (λ is. omega (arith, long_added r ranges))

-- where no range has the prefix, each that overlaps is another
none_overlaps : (r : Range) (ranges : List Range) → has_range r.prefix ranges ≡ false → overlaps_another r ranges ≡ false → list_any (is_overlap r) ranges ≡ false
none_overlaps r [] absent clear = refl
none_overlaps r (other ∷ ranges) absent clear =
    let same = is_same_prefix r.prefix other.prefix in
    let another : same ≡ false = left_false same (has_range r.prefix ranges) absent in
    let first : (not same && is_overlap r other) ≡ false = left_false (not same && is_overlap r other) (overlaps_another r ranges) clear in
    both_false (is_overlap r other) (list_any (is_overlap r) ranges) (sym (ap (λ (b : Bool). not b && is_overlap r other) another) ∙ first)
    (none_overlaps r ranges (right_false same (has_range r.prefix ranges) absent) (right_false (not same && is_overlap r other) (overlaps_another r ranges) clear))

-- ---- a range is set

pub overlap_set : (r : Range) (ranges : List Range) → overlaps_another r ranges ≡ false → has_overlap ranges ≡ false → has_overlap (set_range r ranges) ≡ false
overlap_set r ranges clear none =
    one_of (has_range r.prefix ranges) (map (in_place r) ranges) (in_order r ranges) (λ (rs : List Range). has_overlap rs ≡ false)
    (λ is. overlap_replaced r ranges ∙ none)
    (λ is. overlap_added r ranges (none_overlaps r ranges is clear) none)

pub long_set : (r : Range) (ranges : List Range) (most : ℕ) → (has_range r.prefix ranges ≡ false → length ranges + 1 ≤ most) → length ranges ≤ most → length (set_range r ranges) ≤ most
long_set r ranges most room few =
    one_of (has_range r.prefix ranges) (map (in_place r) ranges) (in_order r ranges) (λ (rs : List Range). length rs ≤ most)
    (λ is. omega (arith, long_replaced r ranges, few))
    (λ is. omega (arith, long_added r ranges, room is))

-- ---- a range is dropped

any_dropped : (p : Prefix) (test : Range → Bool) (ranges : List Range) → list_any test ranges ≡ false → list_any test (drop_range p ranges) ≡ false
any_dropped p test [] none = refl
any_dropped p test (other ∷ ranges) none =
    let later = any_dropped p test ranges (right_false (test other) (list_any test ranges) none) in
    one_of (not (is_same_prefix p other.prefix)) (other ∷ drop_range p ranges) (drop_range p ranges) (λ (rs : List Range). list_any test rs ≡ false)
    (λ is. both_false (test other) (list_any test (drop_range p ranges)) (left_false (test other) (list_any test ranges) none) later)
    (λ is. later)

pub overlap_dropped : (p : Prefix) (ranges : List Range) → has_overlap ranges ≡ false → has_overlap (drop_range p ranges) ≡ false
overlap_dropped p [] none = refl
overlap_dropped p (other ∷ ranges) none =
    let apart = left_false (list_any (is_overlap other) ranges) (has_overlap ranges) none in
    let later = overlap_dropped p ranges (right_false (list_any (is_overlap other) ranges) (has_overlap ranges) none) in
    one_of (not (is_same_prefix p other.prefix)) (other ∷ drop_range p ranges) (drop_range p ranges) (λ (rs : List Range). has_overlap rs ≡ false)
    (λ is. both_false (list_any (is_overlap other) (drop_range p ranges)) (has_overlap (drop_range p ranges)) (any_dropped p (is_overlap other) ranges apart) later)
    (λ is. later)

pub long_dropped : (p : Prefix) (ranges : List Range) (most : ℕ) → length ranges ≤ most → length (drop_range p ranges) ≤ most
long_dropped p ranges most few = omega (arith, shorter ranges, few)
  where
    shorter : (rs : List Range) → length (drop_range p rs) ≤ length rs
    shorter [] = omega arith
    shorter (other ∷ rs) =
        one_of (not (is_same_prefix p other.prefix)) (other ∷ drop_range p rs) (drop_range p rs) (λ (kept : List Range). length kept ≤ length (other ∷ rs))
        (λ is. omega (arith, shorter rs))
        (λ is. omega (arith, shorter rs))
