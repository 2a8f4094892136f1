-- the first networks are done
use Rattle.event_core.proofs.OtherItems.{AreOthersTo}
use Rattle.event_core.proofs.routes.TableUpdate.other_items.Given as goal

abbrev pub invariant-loop-network : goal.invariant-loop-network
invariant-loop-network l = AreOthersTo l.self.calculation.now l.self.table.now.items l.networks l.network-index l.items.items
