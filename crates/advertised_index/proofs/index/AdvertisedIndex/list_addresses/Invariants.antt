use Rattle.advertised_index.proofs.Gathering.{AreInside}
use Rattle.advertised_index.proofs.index.AdvertisedIndex.list_addresses.Given as goal

abbrev pub invariant-loop-address : goal.invariant-loop-address
invariant-loop-address l = AreInside l.network l.initial.addresses.items l.addresses.items l.initial.address-iterator l.address-iterator
