-- So far those are there that are due for the destinations up to here.
use Rattle.std.proofs.Common.{take}
use Rattle.route_choice.specs.Lists.{GainsAll, IsOfSome}
use Rattle.external.specs.Forwards.{forwards_in}
use Rattle.external.specs.Updating.{IsDueInDest}
use Rattle.external.proofs.update.AddressMatches.list_due.Given as goal

abbrev pub invariant-loop-dest : goal.invariant-loop-dest
invariant-loop-dest l = GainsAll (IsOfSome (take l.dest-index l.named) (IsDueInDest l.self.index.now (forwards_in l.self.forwards.now))) l.fn.addresses.items l.due.items
