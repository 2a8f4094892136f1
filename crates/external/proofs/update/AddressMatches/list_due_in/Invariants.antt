-- So far those up to here are there whose match is no longer.
use Rattle.std.proofs.Common.{take}
use Rattle.route_choice.specs.Lists.{GainsAll, IsOfSome}
use Rattle.external.specs.Forwards.{forwards_in}
use Rattle.external.specs.Updating.{IsAddressAffected}
use Rattle.external.proofs.update.AddressMatches.list_due_in.Given as goal

abbrev pub invariant-loop-address : goal.invariant-loop-address
invariant-loop-address l =
    GainsAll (IsOfSome (take l.address-index l.address-items) (IsAddressAffected (forwards_in l.self.forwards.now) l.network)) l.initial.due.items l.due.items
