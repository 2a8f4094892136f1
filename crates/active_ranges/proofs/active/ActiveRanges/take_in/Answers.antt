-- The networks of the members are in place of what the range had.
use Rattle.std.proofs.Common.{refl, subst}
use Rattle.active_ranges.specs.Active.{ActiveValue}
use Rattle.active_ranges.specs.Following.{AreTakenIn}
use Rattle.active_ranges.proofs.Grouped.{ranges_value}
use Rattle.active_ranges.proofs.Taken.{taken_in}
use Rattle.active_ranges.proofs.active.ActiveRanges.take_in.Goals as goal

pub returns : goal.returns
returns c =
    let spent = c.self.inside.spent in
    let new = c.insert.new.self.entries in
    let costs = c.args.costs.now in
    subst (λ (v : ActiveValue). AreTakenIn c.args.named.0 c.args.named.1 costs v (ranges_value new spent)) c.self.view_is
    (taken_in c.self.inside.ranges.entries new spent spent c.args.named.0 c.args.named.1 costs c.requires.within c.in_ok-networks.networks c.in_ok-networks.ensures c.in_ok-insert.ensures.updates.0 refl)
