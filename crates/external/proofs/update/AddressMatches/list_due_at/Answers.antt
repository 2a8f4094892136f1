-- In a router lies no address.
use Rattle.std.proofs.Common.{sym, subst}
use Rattle.std.proofs.lemmas.Result.{on_ok_weaker}
use Rattle.ospf_types.specs.declared.key.Dest.{Dest}
use Rattle.route_choice.specs.Lists.{GainsAll}
use Rattle.route_choice.proofs.Adding.{gains_none}
use Rattle.external.specs.Forwards.{forwards_in}
use Rattle.external.specs.Updating.{IsDueInDest}
use Rattle.external.proofs.update.AddressMatches.list_due_at.Goals as goal

pub returns-in-Net : goal.returns-in-Net
returns-in-Net c =
    on_ok_weaker c.list_due_in.result
    (λ gains. subst (λ (d : Dest). GainsAll (IsDueInDest c.args.self.now.index.now (forwards_in c.args.self.now.forwards.now) d) c.args.due.now.items c.list_due_in.new.due.items) (sym c.in-Net.is) gains)
    c.list_due_in.ensures

pub returns-in-Router : goal.returns-in-Router
returns-in-Router c =
    let i = c.args.self.now.index.now in
    let forwards = forwards_in c.args.self.now.forwards.now in
    gains_none (IsDueInDest i forwards c.args.dest) c.args.due.now.items (λ a due. subst (λ (d : Dest). IsDueInDest i forwards d a) c.in-Router.is due)
