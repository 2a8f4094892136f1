use Rattle.advertised_index.specs.declared.index_key.IndexKey.TheVariants.{To}
use Rattle.advertised_index.proofs.Gathering.{some_listed}
use Rattle.advertised_index.proofs.index.AdvertisedIndex.leads_to.Goals as goal

pub returns : goal.returns
returns c =
    let just = some_listed _ c.self.inside.members c.args.self.now c.self.view_is c.self.invariant (To c.args.dest) in
    (λ yes. just.0 (c.has_dest.ensures.0 yes), λ w. c.has_dest.ensures.1 (just.1 w))
