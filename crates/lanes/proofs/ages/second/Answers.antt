use Rattle.std.proofs.Common.{◌+◌, ◌-◌, length, take, ap, arith}
use Rattle.std.proofs.lemmas.List.{length-map, length-take, length-take-le}
use Rattle.std.proofs.lemmas.List.Sums.{count_by-le-length}
use borrow.Rule.Slice.PartMut.{put_mid}
use Rattle.std.proofs.Math.Seq.{take-length}
use Rattle.lanes.specs.Ages.{next_age, comes_to_max_age}
use Rattle.lanes.proofs.Aging.{piece_mapped, piece_counted, whole_mapped}
use Rattle.lanes.proofs.ages.second.Goals as goal

pub loop-ages-preserved : goal.loop-ages-preserved
loop-ages-preserved c =
    let ages = c.loop-ages.ages in
    let first = c.args.ages.now in
    let i = c.loop-ages.first in
    let step = piece_mapped next_age ages first i (i + 32 - i) (i + 32) c.second_of_lanes-came.new.ages (omega arith) (omega arith) c.second_of_lanes-came.ensures.aged c.loop-ages.invariant.so_far c.loop-ages.invariant.rest in
    let counted = piece_counted comes_to_max_age ages first i (i + 32 - i) (i + 32) (omega arith) c.loop-ages.invariant.rest in
    record {
      within = omega (arith, ap length step.0, length-map (take (i + 32) first) next_age, length-take-le (i + 32) first (omega arith), length-take (i + 32) (put_mid i (i + 32 - i) ages c.second_of_lanes-came.new.ages));
      so_far = step.0;
      rest = step.1;
      counted = cc;
      few = omega (arith, counted, c.second_of_lanes-came.ensures.came, c.loop-ages.invariant.counted, count_by-le-length comes_to_max_age (take (i + 32) first), length-take-le (i + 32) first (omega arith));
    }

pub returns-clause-aged : goal.returns-clause-aged
returns-clause-aged c =
    let ages = c.loop-ages.ages in
    let first = c.args.ages.now in
    let i = c.loop-ages.first in
    let n = length ages in
    let step = piece_mapped next_age ages first i (n - i) n c.second_one_by_one.new.ages (omega arith) (omega arith) c.second_one_by_one.ensures.aged c.loop-ages.invariant.so_far c.loop-ages.invariant.rest in
    whole_mapped next_age _ first n c.loop-ages.auto.ages step.0 step.1

pub returns-clause-came : goal.returns-clause-came
returns-clause-came c =
    let ages = c.loop-ages.ages in
    let first = c.args.ages.now in
    let i = c.loop-ages.first in
    let counted = piece_counted comes_to_max_age ages first i (length ages - i) (length first) (omega arith) c.loop-ages.invariant.rest in
    let all = take-length first in
    cc
