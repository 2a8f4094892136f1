-- So far those up to here led on.
use Rattle.std.proofs.Common.{take}
use Rattle.route_choice.specs.Lists.{HasMore, IsOfSome}
use Rattle.external.specs.Updating.{IsLedBy}
use Rattle.external.proofs.update.list_dests_by_routers.Given as goal

abbrev pub invariant-loop-router : goal.invariant-loop-router
invariant-loop-router l = HasMore (IsOfSome (take l.router-index l.routers) (IsLedBy l.index)) l.initial.dests.items l.dests.items
