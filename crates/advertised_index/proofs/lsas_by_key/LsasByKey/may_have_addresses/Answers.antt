use Rattle.advertised_index.specs.declared.index_key.IndexKey.TheVariants.{Forwarded}
use Rattle.advertised_index.proofs.Covering.{none_among}
use Rattle.advertised_index.proofs.lsas_by_key.LsasByKey.may_have_addresses.Goals as goal

pub returns : goal.returns
returns c = λ no a after before.
    none_among c.self.inside.members.keys c.args.self.now c.self.inside.coarse (Forwarded a) c.self.invariant.2 c.self.view_is (c.may_have_addresses.ensures no a after before)
