-- So far those up to here led on.
use Rattle.std.proofs.Common.{take}
use Rattle.route_choice.specs.Lists.{HasMore, IsOfSome}
use Rattle.external.specs.Updating.{IsLedByAddress}
use Rattle.external.proofs.update.list_dests_by_addresses.Given as goal

abbrev pub invariant-loop-address : goal.invariant-loop-address
invariant-loop-address l = HasMore (IsOfSome (take l.address-index l.addresses) (IsLedByAddress l.index)) l.initial.dests.items l.dests.items
