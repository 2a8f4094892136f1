use Rattle.std.proofs.Common.{sym, ap}
use Rattle.std.specs.Prelude.{is_some}
use Rattle.event_core.specs.Affected.{range_of}
use Rattle.event_core.proofs.Naming.{interface_names, others_name, ranges_by}
use Rattle.event_core.proofs.affected.changed_by.Goals as goal

pub returns-in-Interface-clause-named : goal.returns-in-Interface-clause-named
returns-in-Interface-clause-named c =
    let i = c.in-Interface in
    interface_names c.args.state.now c.args.event.now i.id i.area i.address i.peer i.up c.new.result.items c.in_ok-from_slice.field-0.items i.is c.new.ensures.items c.in_ok-from_slice.ensures.items

-- an interface's event changes no range
pub returns-in-Interface-clause-range : goal.returns-in-Interface-clause-range
returns-in-Interface-clause-range c = ap range_of (sym c.in-Interface.is)

pub returns-in-Interface-clause-ranges : goal.returns-in-Interface-clause-ranges
returns-in-Interface-clause-ranges c = ranges_by c.args.state.now c.args.event.now _ (ap range_of (sym c.in-Interface.is))

pub returns-clause-named : goal.returns-clause-named
returns-clause-named c =
    others_name c.args.state.now c.args.event.now c.in_ok-affected_lsas.field-0.items c.new-2.result.items (is_some c.range_of.result) c.in_default.not-Interface c.new-2.ensures.items (ap is_some c.range_of.ensures) c.in_ok-affected_lsas.ensures

pub returns-clause-ranges : goal.returns-clause-ranges
returns-clause-ranges c = ranges_by c.args.state.now c.args.event.now c.range_of.result c.range_of.ensures
