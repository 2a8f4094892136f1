use Rattle.advertised_index.specs.declared.index_key.IndexKey.TheVariants.{Forwarded}
use Rattle.advertised_index.proofs.NotedGroups.{noted_just}
use Rattle.advertised_index.proofs.lsas_by_key.LsasByKey.addresses.Goals as goal

pub returns : goal.returns
returns c = λ a.
    let just = noted_just c.self.inside.members.keys c.args.self.now c.self.inside.noted c.self.invariant.1 c.self.view_is (Forwarded a) tt in (
      λ there. let w = (c.addresses.ensures a).0 there in (just.0 w.0, w.1, w.2),
      λ w. (c.addresses.ensures a).1 (just.1 w.0, w.1, w.2),
    )
