-- The member is added, or it is not covered.
use Rattle.std.proofs.Common.{true≢false, sym, ◌∙◌}
use Rattle.active_ranges.specs.Following.{IsNamedAs}
use Rattle.active_ranges.specs.declared.member.RangeMember.{RangeMember}
use Rattle.route_choice.proofs.Adding.{more_none, more_one}
use Rattle.active_ranges.proofs.Naming.{covered, not_covered}
use Rattle.active_ranges.proofs.covered_members.push_covered.Goals as goal

pub returns-then-not-covers : goal.returns-then-not-covers
returns-then-not-covers c =
    more_none (IsNamedAs c.args.range.now c.args.dest) c.args.members.now.items (not_covered c.args.range.now c.args.dest c.in-Net.network c.in-Net.is (λ covers. true≢false (sym (c.covers.ensures.1 covers) ∙ c.if-not-covers.true)))

pub returns : goal.returns
returns c =
    let range = c.args.range.now in
    let one : RangeMember = record { range = range.prefix; area = range.area; network = c.in-Net.network } in
    more_one (IsNamedAs range c.args.dest) c.args.members.now.items c.push.new.self.items one c.in_ok-push.ensures.items (covered range c.args.dest c.in-Net.network c.in-Net.is (c.covers.ensures.0 c.if-not-covers.false))
