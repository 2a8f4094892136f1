use Rattle.std.proofs.Common.{sym, subst}
use Rattle.event_core.specs.Following.{AreRoutesOf}
use Rattle.event_core.proofs.routes.Routes.start_anew.Goals as goal

pub returns-clause-right : goal.returns-clause-right
returns-clause-right c =
    let are = subst (AreRoutesOf c.args.state.now) (sym c.self.view_is) c.in_ok-self-inside.ensures.right in
    record { calculation = are.calculation; table = are.table; serial = are.serial; summaries = are.summaries }
