-- The range is taken out with its networks.
use Rattle.std.proofs.Common.{refl, subst}
use Rattle.active_ranges.specs.Active.{ActiveValue}
use Rattle.active_ranges.specs.Following.{HasLeft}
use Rattle.active_ranges.proofs.Grouped.{ranges_value}
use Rattle.active_ranges.proofs.Taken.{left_out}
use Rattle.active_ranges.proofs.active.ActiveRanges.leave.Goals as goal

pub returns : goal.returns
returns c =
    let spent = c.self.inside.spent in
    let new = c.remove.new.self.entries in
    subst (λ (v : ActiveValue). HasLeft c.args.area c.args.range v (ranges_value new spent)) c.self.view_is (left_out c.self.inside.ranges.entries new spent spent c.args.area c.args.range c.remove.ensures.updates.0 refl)
