use Rattle.std.proofs.Common.{◌≡◌, ℕ, ◌<◌, ◌≤◌, length, get_or, subst, arith}
use Rattle.std.proofs.lemmas.Bool.Decides.{nat_tests}
use Rattle.std.proofs.lemmas.List.{get_or_default}
use Rattle.lanes.specs.Ages.{MaxAge, next_age, comes_to_max_age}
use Rattle.lanes.proofs.Aging.{not_reached, one_mapped, one_counted}
use Rattle.lanes.proofs.ages.second_one_by_one.Goals as goal
use Rattle.lanes.proofs.ages.second_one_by_one.Goals.{then-second_of, else-second_of}

pub second_of-requires : goal.second_of-requires
second_of-requires c =
    let ages = c.loop-age.ages in
    let first = c.args.ages.now in
    let i = c.loop-age.age-index in
    let lt : i < length ages = omega arith in
    let here : get_or ages i 0 ≡ get_or ages i (get_or ages i 0) = get_or_default ages i 0 _ lt in
    let same : get_or first i (get_or ages i 0) ≡ get_or ages i 0 = not_reached ages first i (get_or ages i 0) lt c.loop-age.auto.ages here c.loop-age.invariant.rest in
    subst (λ (age : ℕ). age ≤ MaxAge) same (c.requires i _ (omega arith))

pub loop-age-preserved : goal.loop-age-preserved
loop-age-preserved c =
    let ages = c.loop-age.ages in
    let first = c.args.ages.now in
    let i = c.loop-age.age-index in
    let age = get_or ages i 0 in
    let lt : i < length ages = omega arith in
    let here : get_or ages i 0 ≡ get_or ages i (get_or ages i 0) = get_or_default ages i 0 _ lt in
    let step = one_mapped next_age ages first i age lt c.loop-age.auto.ages here c.loop-age.invariant.so_far c.loop-age.invariant.rest in
    let counted = one_counted comes_to_max_age ages first i age lt c.loop-age.auto.ages here c.loop-age.invariant.rest in
    record {
      so_far = rw c.second_of.ensures.aged step.0;
      rest = rw c.second_of.ensures.aged step.1;
      counted = elim c.if-second_of.branch [ then-second_of w ↦ grind (arith, nat_tests) | else-second_of w ↦ grind (arith, nat_tests) ];
      few = elim c.if-second_of.branch [ then-second_of w ↦ omega arith | else-second_of w ↦ omega arith ];
    }
