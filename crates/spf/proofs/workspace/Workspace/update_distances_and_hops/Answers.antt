use Rattle.std.proofs.Common.{refl, ap}
use Rattle.spf.specs.TreeValues.{tree_of}
use Rattle.spf.proofs.Finished.{carried_out}
use Rattle.spf.proofs.CarriedOut.{started, distances_before, unsettled}
use Rattle.spf.proofs.workspace.Workspace.update_distances_and_hops.Goals as goal

pub relax-requires-clause-started : goal.relax-requires-clause-started
relax-requires-clause-started c = let w = c.requires.begun in started (distances_before w.1.before) w.1.losses

pub relax-requires-clause-links : goal.relax-requires-clause-links
relax-requires-clause-links c = c.requires.begun.1.before.came

pub update_next_hops-requires-clause-unsettled : goal.update_next_hops-requires-clause-unsettled
update_next_hops-requires-clause-unsettled c =
    let w = c.requires.begun in
    unsettled (tree_of c.relax.new.distances c.args.hops.now) w.1.before w.1.losses c.in_ok-touched.ensures.relaxed

pub returns-clause-carried_out : goal.returns-clause-carried_out
returns-clause-carried_out c =
    carried_out (tree_of c.relax.new.distances c.update_next_hops.new.hops) c.requires.begun.1 c.in_ok-touched.ensures.relaxed c.in_ok-update_next_hops.ensures.settled (ap (λ (t : _). t.taken) c.in_ok-touched.ensures.counted) c.in_ok-update_next_hops.ensures.taken
    c.in_ok-update_next_hops.ensures.written refl
