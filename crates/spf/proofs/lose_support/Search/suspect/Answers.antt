use Rattle.std.proofs.Common.{true, refl, inl, inr}
use Rattle.std.proofs.lemmas.Result.{on_ok_weaker}
use Rattle.spf.proofs.Suspecting.{told_one, told_lost, member_fresh}
use Rattle.spf.proofs.lose_support.Search.suspect.Goals as goal

pub push-requires : goal.push-requires
push-requires c = λ there.
    member_fresh c.args.self.now.pending.stale c.add.new.self c.args.vertex.now c.in_ok-add.field-0 c.in_ok-add.ensures.end c.if-branch.true (c.requires.within c.args.vertex.now (inr there))

pub returns-then-branch-clause-told : goal.returns-then-branch-clause-told
returns-then-branch-clause-told c =
    let s = c.args.self.now in
    let fresh = member_fresh s.pending.stale c.add.new.self c.args.vertex.now c.in_ok-add.field-0 c.in_ok-add.ensures.end c.if-branch.true in
    on_ok_weaker c.push.result (λ pushed.
    told_one c.args.vertex.now s.lost s.pending.stale c.add.new.self s.suspects c.push.new.self true c.in_ok-add.ensures.added (inl (refl, pushed, λ there. fresh (c.requires.within c.args.vertex.now (inr there))))) c.push.ensures.pushed

pub returns-in_ok-add-2-clause-told : goal.returns-in_ok-add-2-clause-told
returns-in_ok-add-2-clause-told c =
    let s = c.args.self.now in
    told_one c.args.vertex.now s.lost s.pending.stale c.add.new.self s.suspects c.add-then-not-has.new.self c.in_ok-add-2.field-0 c.in_ok-add.ensures.added c.in_ok-add-2.ensures.end

pub returns-else-not-has-clause-told : goal.returns-else-not-has-clause-told
returns-else-not-has-clause-told c =
    let s = c.args.self.now in
    told_lost c.args.vertex.now s.lost s.pending.stale c.add.new.self s.suspects c.in_ok-add.ensures.added (c.has.ensures.0 c.if-not-has.false)
