-- The metric of a network by its sources, and of a router by its preferred route.
use Rattle.std.proofs.Common.{sym, subst}
use Rattle.ospf_types.specs.declared.key.Dest.{Dest}
use Rattle.summaries.specs.Candidates.{AreOf}
use Rattle.summaries.specs.Giving.{IsDueTo}
use Rattle.summaries.proofs.GivenParts.{router_due, two_active}
use Rattle.summaries.proofs.giving.metric.Goals as goal

pub returns-in-Net : goal.returns-in-Net
returns-in-Net c = λ v serves right m.
    let a = c.args.area.now in
    let served = serves.0 c.if-not-served.false in
    let of = subst (λ (d : Dest). AreOf v d c.args.candidate.now.given) c.in-Net.is (right (two_active v.active a.id served)) in
    let due = c.network_metric.ensures v (of a.id) m in (
      λ is. record { served = served; due = subst (λ (d : Dest). IsDueTo v a d m) (sym c.in-Net.is) (due.0 is) },
      λ w. due.1 (subst (λ (d : Dest). IsDueTo v a d m) c.in-Net.is w.due),
    )

pub returns-in-Router : goal.returns-in-Router
returns-in-Router c = λ v serves right m.
    let a = c.args.area.now in
    let served = serves.0 c.if-not-served.false in
    let of = subst (λ (d : Dest). AreOf v d c.args.candidate.now.given) c.in-Router.is (right (two_active v.active a.id served)) in
    let metric = c.router_metric.ensures m in
    let due = router_due v a.id a.stub c.in-Router.field-0 m in (
      λ is. let by = metric.0 is in record { served = served; due = subst (λ (d : Dest). IsDueTo v a d m) (sym c.in-Router.is) (due.0 (by.0, (of a.id m).0 by.1)) },
      λ w. let by = due.1 (subst (λ (d : Dest). IsDueTo v a d m) c.in-Router.is w.due) in metric.1 (by.0, (of a.id m).1 by.1),
    )
