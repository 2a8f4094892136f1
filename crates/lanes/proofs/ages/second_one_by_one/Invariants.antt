use Rattle.std.proofs.Common.{◌≡◌, ◌≤◌, map, take, drop, count_by}
use Rattle.lanes.specs.Ages.{next_age, comes_to_max_age}
use Rattle.lanes.proofs.ages.second_one_by_one.Given as goal

abbrev pub invariant-loop-age : goal.invariant-loop-age
invariant-loop-age l = record {
  so_far : take l.age-index l.ages ≡ map next_age (take l.age-index l.fn.ages);
  rest : drop l.age-index l.ages ≡ drop l.age-index l.fn.ages;
  counted : l.came ≡ count_by comes_to_max_age (take l.age-index l.fn.ages);
  few : l.came ≤ l.age-index;
}
