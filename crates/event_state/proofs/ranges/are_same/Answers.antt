use Rattle.std.proofs.lemmas.Slice.Eq.{slice_eq-Decides}
use Rattle.event_state.proofs.RangeLists.{range_eq-Decides}
use Rattle.event_state.proofs.ranges.are_same.Goals as goal

pub returns : goal.returns
returns c = slice_eq-Decides range_eq-Decides c.args.ranges.now c.args.others.now c.eq.result c.eq.ensures
