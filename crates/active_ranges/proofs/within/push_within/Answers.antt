-- The member is added at its cost, or its network does not lie within the range.
use Rattle.std.proofs.Common.{true≢false, Some, None, refl, sym, ◌∙◌}
use Rattle.active_ranges.specs.Following.{IsAddedWithin}
use Rattle.active_ranges.proofs.Inside.{outside_by, uncovered, within_by}
use Rattle.route_choice.proofs.Adding.{more_none, more_one}
use Rattle.active_ranges.proofs.within.push_within.Goals as goal

pub returns-then-not-covers : goal.returns-then-not-covers
returns-then-not-covers c = λ entries held.
    more_none (IsAddedWithin entries c.args.member) c.args.costs.now.items (uncovered entries c.args.member (λ covers. true≢false (sym (c.covers.ensures.1 covers) ∙ c.if-not-covers.true)))

pub returns-in_default : goal.returns-in_default
returns-in_default c = λ entries held.
    more_none (IsAddedWithin entries c.args.member) c.args.costs.now.items (outside_by entries c.args.member (Some c.args.entry.now) (sym held) None c.in_default.ensures refl)

pub returns : goal.returns
returns c = λ entries held.
    let member = c.args.member in
    let cost = c.in-Some.cost in
    more_one (IsAddedWithin entries member) c.args.costs.now.items c.push.new.self.items (member, cost) c.in_ok-push.ensures.items
    (within_by entries member (Some c.args.entry.now) (sym held) (Some cost) c.in-Some.ensures cost refl (c.covers.ensures.0 c.if-not-covers.false))
