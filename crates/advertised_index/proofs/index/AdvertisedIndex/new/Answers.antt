use Rattle.advertised_index.proofs.Gathering.{nothing_listed}
use Rattle.advertised_index.proofs.index.AdvertisedIndex.new.Goals as goal

pub invariant_of-result : goal.invariant_of-result
invariant_of-result c = nothing_listed c.new.result.entries c.new-2.result c.new.ensures c.new-2.ensures
