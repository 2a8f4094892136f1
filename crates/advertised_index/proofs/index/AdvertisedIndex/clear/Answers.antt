use Rattle.advertised_index.proofs.Gathering.{nothing_listed}
use Rattle.advertised_index.proofs.index.AdvertisedIndex.clear.Goals as goal

pub invariant_of-self : goal.invariant_of-self
invariant_of-self c = nothing_listed c.clear.new.self.entries c.clear-2.new.self c.clear.ensures c.clear-2.ensures
