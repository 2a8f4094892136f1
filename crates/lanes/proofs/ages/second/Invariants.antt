use Rattle.std.proofs.Common.{◌≡◌, ◌≤◌, ◌-◌, length, map, take, drop, count_by}
use Rattle.lanes.specs.Ages.{next_age, comes_to_max_age}
use Rattle.lanes.proofs.ages.second.Given as goal

abbrev pub invariant-loop-ages : goal.invariant-loop-ages
invariant-loop-ages l = record {
  within : l.first ≤ length l.ages;
  so_far : take l.first l.ages ≡ map next_age (take l.first l.fn.ages);
  rest : drop l.first l.ages ≡ drop l.first l.fn.ages;
  counted : l.came ≡ count_by comes_to_max_age (take l.first l.fn.ages);
  few : l.came ≤ l.first;
}

abbrev pub decreases-loop-ages : goal.decreases-loop-ages
decreases-loop-ages l = length l.ages - l.first
