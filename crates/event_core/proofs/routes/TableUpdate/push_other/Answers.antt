use Rattle.std.proofs.Common.{inl, refl, subst}
use Rattle.calculation.specs.Calculations.{IsNewItemOf}
use Rattle.event_core.proofs.OtherItems.{one_more}
use Rattle.event_core.proofs.routes.TableUpdate.push_other.Goals as goal

pub returns-in_default : goal.returns-in_default
returns-in_default c =
    let all = IsNewItemOf c.args.self.calculation.now c.args.self.table.now.items c.args.network in
    inl (refl, subst all c.in_default.is c.in_ok-item.ensures)

pub returns : goal.returns
returns c =
    let all = IsNewItemOf c.args.self.calculation.now c.args.self.table.now.items c.args.network in
    one_more c.args.self.calculation.now c.args.self.table.now.items c.args.network c.args.items.now.items c.push.new.self.items c.in-Some.item c.in_ok-push.ensures.items (subst all c.in-Some.is c.in_ok-item.ensures)
