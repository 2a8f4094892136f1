-- Lists of ranges: where a new one comes, and whether those of some areas differ.
use Rattle.std.proofs.Common.{◌≡◌, ℕ, ◌+◌, ◌<◌, ◌≤◌, suc, Bool, true, false, cond, List, [], ◌∷◌, ◌++◌, length, get_or, take, Some, None, Decides, refl, sym, ap, ◌∙◌, arith}
use Rattle.std.specs.Prelude.{nat_lt, not}
use Rattle.std.specs.List.{insert, position, position_or_len}
use Rattle.std.specs.Cmp.{booleans_Decides}
use Rattle.std.proofs.Math.Bool.{beq}
use Rattle.std.proofs.lemmas.Bool.Decides.{nat_tests, Decides-and}
use Rattle.std.proofs.lemmas.List.{take_more, length-map, get_or_default}
use Rattle.std.proofs.lemmas.List.Sums.{prefix_len-le-length}
use Rattle.ospf_types.specs.contracts.config.RangePartialEq.TheImpl as range_equality
use Rattle.ospf_types.specs.declared.config.AreaConfig.{AreaConfig}
use Rattle.ospf_types.specs.declared.config.Range.{Range}
use Rattle.ospf_types.specs.RangeChanges.{in_order, with_others, areas_without_ranges}
use Rattle.ospf_types.proofs.KeyOrders.{prefixes_equal, prefixes_decided}
use Rattle.ospf_types.specs.Neighbours.{is_before}
use Rattle.event_state.proofs.OneChange.{mapped_at}

-- a greater range
abbrev pub is_behind : Range → Range → Bool
is_behind r other = is_before r.prefix other.prefix

inserted : (r : Range) (ranges : List Range) → insert ranges (position_or_len (is_behind r) ranges) r ≡ in_order r ranges
inserted r [] = refl
inserted r (other ∷ ranges) =
    let n = position_or_len (is_behind r) ranges in
    let next : 1 + n ≡ suc n = omega arith in
    elim (is_behind r other) as (λ b. insert (other ∷ ranges) (cond (not b) (1 + n) 0) r ≡ cond b (r ∷ other ∷ ranges) (other ∷ in_order r ranges)) [
      | true ↦ refl
      | false ↦ ap (λ (k : ℕ). insert (other ∷ ranges) k r) next ∙ ap (λ (rs : List Range). other ∷ rs) (inserted r ranges)
    ]

found : (n m k : ℕ) → cond (nat_lt n m) (Some n) None ≡ Some k → n ≡ k
found n m k e =
    elim (nat_lt n m) as (λ b. cond b (Some n) None ≡ Some k → n ≡ k) [
      | true ↦ λ is. cc
      | false ↦ λ is. absurd cc
    ] e

not_found : (n m : ℕ) → n ≤ m → cond (nat_lt n m) (Some n) None ≡ None → n ≡ m
not_found n m le e =
    elim (nat_lt n m) as (λ b. nat_lt n m ≡ b → cond b (Some n) None ≡ None → n ≡ m) [
      | true ↦ λ t is. absurd cc
      | false ↦ λ t is. grind (arith, nat_tests)
    ] refl e

-- before the first that is greater
pub before_greater : (r : Range) (ranges : List Range) (k : ℕ) → position (is_behind r) ranges ≡ Some k → insert ranges k r ≡ in_order r ranges
before_greater r ranges k e = ap (λ (n : ℕ). insert ranges n r) (sym (found (position_or_len (is_behind r) ranges) (length ranges) k e)) ∙ inserted r ranges

-- after all
pub behind_all : (r : Range) (ranges : List Range) → position (is_behind r) ranges ≡ None → insert ranges (length ranges) r ≡ in_order r ranges
behind_all r ranges e =
    let last = not_found (position_or_len (is_behind r) ranges) (length ranges) (prefix_len-le-length (λ (o : Range). not (is_behind r o)) ranges) e in
    ap (λ (n : ℕ). insert ranges n r) (sym last) ∙ inserted r ranges

-- ---- whether they differ

-- the derived equality of ranges is the equality of values
pub range_eq-Decides : (r q : Range) → Decides (range_equality.ghosts.eq r q) (r ≡ q)
range_eq-Decides r q =
    let both = Decides-and (prefixes_equal r.prefix q.prefix) (beq r.advertise q.advertise) (prefixes_decided r.prefix q.prefix) (booleans_Decides r.advertise q.advertise) in (
      λ t. let same = both.0 t in λ i. record { prefix = same.0 i; advertise = same.1 i },
      λ same. both.1 (ap (λ (x : Range). x.prefix) same, ap (λ (x : Range). x.advertise) same),
    )

area_same : (a b : AreaConfig) → with_others a [] ≡ with_others b [] → a.ranges ≡ b.ranges → a ≡ b
area_same a b others ranges = λ i. record { id = (others i).id; stub = (others i).stub; ranges = ranges i }

-- one more area is as before
pub same_more : (areas new : List AreaConfig) (i : ℕ) (d e : AreaConfig) → areas_without_ranges new ≡ areas_without_ranges areas → i < length areas → (get_or areas i d).ranges ≡ (get_or new i e).ranges
    → take i new ≡ take i areas → take (i + 1) new ≡ take (i + 1) areas
same_more areas new i d e others lt ranges before =
    let bare : AreaConfig → AreaConfig = λ (c : AreaConfig). with_others c [] in
    let long : length new ≡ length areas = sym (length-map new bare) ∙ ap length others ∙ length-map areas bare in
    let here : get_or areas i d ≡ get_or areas i e = get_or_default areas i d e lt in
    let rest : bare (get_or new i e) ≡ bare (get_or areas i e) = sym (mapped_at bare new i e) ∙ ap (λ (cs : List AreaConfig). get_or cs i (bare e)) others ∙ mapped_at bare areas i e in
    let same : get_or new i e ≡ get_or areas i e = area_same (get_or new i e) (get_or areas i e) rest (sym ranges ∙ ap (λ (c : AreaConfig). c.ranges) here) in
    take_more new i e (omega arith) ∙ (λ j. before j ++ same j ∷ []) ∙ sym (take_more areas i e lt)

-- where the areas are as before, so are the ranges of each
pub same_at : (areas new : List AreaConfig) (i : ℕ) (d e : AreaConfig) → i < length areas → new ≡ areas → (get_or areas i d).ranges ≡ (get_or new i e).ranges
same_at areas new i d e lt same = ap (λ (c : AreaConfig). c.ranges) (get_or_default areas i d e lt ∙ ap (λ (cs : List AreaConfig). get_or cs i e) (sym same))
