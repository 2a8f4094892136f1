-- So far the destinations up to here are there that something leads to.
use Rattle.std.proofs.Common.{take}
use Rattle.route_choice.specs.Lists.{GainsAll, IsOfSome}
use Rattle.external.specs.Updating.{IsAlso}
use Rattle.external.proofs.update.list_dests_led_to.Given as goal

abbrev pub invariant-loop-dest : goal.invariant-loop-dest
invariant-loop-dest l = GainsAll (IsOfSome (take l.dest-index l.dests) (IsAlso l.index)) l.initial.leading.items l.leading.items
