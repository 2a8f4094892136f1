-- One member more.
use Rattle.active_ranges.proofs.Following.{followed_none, followed_more, followed_all}
use Rattle.active_ranges.proofs.active.ActiveRanges.follow.Goals as goal

pub loop-member-init : goal.loop-member-init
loop-member-init c = followed_none c.args.intra.now.entries c.args.self.now

pub loop-member-preserved : goal.loop-member-preserved
loop-member-preserved c =
    let step = c.in_ok-follow_member.ensures in
    followed_more c.args.intra.now.entries c.args.self.now c.loop-member.self c.follow_member.new.self c.args.named.now c.loop-member.member-index c.member-item.result c.loop-member-test.true c.member-item.is
    c.loop-member.invariant step.spent step.here step.others

pub returns : goal.returns
returns c = followed_all c.args.intra.now.entries c.args.self.now c.loop-member.self c.args.named.now c.loop-member.member-index c.loop-member-test.false c.loop-member.invariant
