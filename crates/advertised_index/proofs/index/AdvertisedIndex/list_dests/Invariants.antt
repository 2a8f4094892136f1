use Rattle.advertised_index.proofs.Gathering.{AreGathered, GivesDest}
use Rattle.advertised_index.proofs.index.AdvertisedIndex.list_dests.Given as goal

abbrev pub invariant-loop-key : goal.invariant-loop-key
invariant-loop-key l = AreGathered (GivesDest l.self) l.initial.dests.items l.dests.items l.initial.key-iterator l.key-iterator
