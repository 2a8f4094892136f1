use Rattle.std.proofs.Common.{ℕ}
use Rattle.advertised_index.specs.declared.index_key.IndexKey.TheVariants.{Forwarded}
use Rattle.advertised_index.proofs.Gathering.{some_listed}
use Rattle.advertised_index.proofs.index.AdvertisedIndex.has_addresses.Goals as goal

pub returns : goal.returns
returns c =
    let just = λ (a : ℕ). some_listed _ c.self.inside.members c.args.self.now c.self.view_is c.self.invariant (Forwarded a) in (
      λ yes. let w = c.has_addresses.ensures.0 yes in (w.0, (just w.0).0 w.1),
      λ w. c.has_addresses.ensures.1 (w.0, (just w.0).1 w.1),
    )
