-- Of ranges that ascend, one that covers a later one covers the next one.
use Rattle.std.proofs.Common.{◌≡◌, ◌<◌, ◌≤◌, Bool, true, false, List, [], ◌∷◌, All, refl, sym, ap, ◌∙◌, inl, inr, arith}
use Rattle.std.specs.Prelude.{◌||◌, ◌⊎◌, ◌==◌, nat_le}
use Rattle.std.specs.List.{list_any, AllByRecursion}
use Rattle.std.proofs.lemmas.Bool.{and_parts, and_from, or_parts, or_from, leb-true, eqb-true, le-leb, eq-eqb, false_from_ne_true, both_ways}
use Rattle.std.proofs.lemmas.Bool.Decides.{nat_tests}
use Rattle.std.proofs.lemmas.List.Elements.{recursion_from_All}
use Rattle.ospf_types.specs.declared.config.Range.{Range}
use Rattle.ospf_types.specs.declared.prefix.Prefix.{Prefix}
use Rattle.ospf_types.specs.Masks.{masked}
use Rattle.ospf_types.specs.Configs.{is_cover, is_overlap, has_overlap}
use Rattle.ospf_types.specs.Neighbours.{IsMasked, is_before, is_ascending, has_next_overlap}
use Rattle.ospf_types.proofs.Intervals.{begins_below, lies_between, not_shorter}

-- the order of networks, in numbers
abbrev IsBefore : Prefix → Prefix → Type 0
IsBefore p q = (p.address < q.address) ⊎ ((p.address ≡ q.address) × (p.length < q.length))

in_numbers : (p q : Prefix) → is_before p q ≡ true → IsBefore p q
in_numbers p q e = grind (arith, nat_tests)

before_past : (p q r : Prefix) → IsBefore p q → IsBefore q r → IsBefore p r
before_past p q r h g = grind arith

-- a network covers none that comes before it
covers_none_before : (p q : Prefix) → IsBefore p q → is_cover q p ≡ false
covers_none_before p q h = false_from_ne_true _ (λ e.
    let tests = and_parts (nat_le q.length p.length) (masked p.address q.length == q.address) e in
    let shorter = leb-true q.length p.length tests.0 in
    let inside = eqb-true (masked p.address q.length) q.address tests.1 in
    let below = begins_below p.address q.length in
    absurd (omega arith))

-- a network that begins in an earlier one is as long or longer
longer : (p q : Prefix) → IsBefore p q → masked q.address p.length ≡ p.address → IsMasked q → p.length ≤ q.length
longer p q (inl past) here own = not_shorter p.address q.address p.length q.length here past own
longer p q (inr same) here own = omega arith

-- a network that covers a later one covers each between
covers_between : (p q r : Prefix) → IsBefore p q → IsBefore q r → IsMasked q → is_cover p r ≡ true → is_cover p q ≡ true
covers_between p q r h g own e =
    let tests = and_parts (nat_le p.length r.length) (masked r.address p.length == p.address) e in
    let inside = eqb-true (masked r.address p.length) p.address tests.1 in
    let here : masked q.address p.length ≡ p.address = lies_between p.address q.address r.address p.length inside (omega arith) (omega arith) in
    and_from _ _ (le-leb p.length q.length (longer p q h here own)) (eq-eqb _ _ here)

apart_past : (a b c : Range) → IsBefore a.prefix b.prefix → IsBefore b.prefix c.prefix → IsMasked b.prefix → is_overlap a b ≡ false → is_overlap a c ≡ false
apart_past a b c h g own e = or_from _ _
    (false_from_ne_true _ (λ t. both_ways _ (or_parts _ _ e).0 (covers_between a.prefix b.prefix c.prefix h g own t)))
    (covers_none_before a.prefix c.prefix (before_past a.prefix b.prefix c.prefix h g))

none_later : (a b : Range) (ranges : List Range) → IsBefore a.prefix b.prefix → is_ascending (b ∷ ranges) ≡ true → AllByRecursion (λ (range : Range). IsMasked range.prefix) (b ∷ ranges) → is_overlap a b ≡ false → list_any (is_overlap a) ranges ≡ false
none_later a b [] h ascending own e = refl
none_later a b (c ∷ ranges) h ascending own e =
    let parts = and_parts (is_before b.prefix c.prefix) (is_ascending (c ∷ ranges)) ascending in
    let g = in_numbers b.prefix c.prefix parts.0 in
    let apart = apart_past a b c h g own.0 e in
    or_from _ _ apart (none_later a c ranges (before_past a.prefix b.prefix c.prefix h g) parts.1 own.1 apart)

joined : (first later next rest : Bool) → (first ≡ false → later ≡ false) → next ≡ rest → (first || next) ≡ ((first || later) || rest)
joined true later next rest none e = refl
joined false later next rest none e = e ∙ sym (ap (λ t. t || rest) (none refl))

same_by_recursion : (ranges : List Range) → is_ascending ranges ≡ true → AllByRecursion (λ (range : Range). IsMasked range.prefix) ranges → has_next_overlap ranges ≡ has_overlap ranges
same_by_recursion [] ascending own = refl
same_by_recursion (a ∷ []) ascending own = refl
same_by_recursion (a ∷ b ∷ ranges) ascending own =
    let parts = and_parts (is_before a.prefix b.prefix) (is_ascending (b ∷ ranges)) ascending in
    joined (is_overlap a b) (list_any (is_overlap a) ranges) (has_next_overlap (b ∷ ranges)) (has_overlap (b ∷ ranges))
    (none_later a b ranges (in_numbers a.prefix b.prefix parts.0) parts.1 own.1)
    (same_by_recursion (b ∷ ranges) parts.1 own.1)

-- of ranges that ascend it is enough to compare each with the next one
pub neighbours_suffice : (ranges : List Range) → is_ascending ranges ≡ true → All (λ (range : Range). IsMasked range.prefix) ranges → has_next_overlap ranges ≡ has_overlap ranges
neighbours_suffice ranges ascending own = same_by_recursion ranges ascending (recursion_from_All _ ranges own)
