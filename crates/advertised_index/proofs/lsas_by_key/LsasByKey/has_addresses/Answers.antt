use Rattle.advertised_index.proofs.NotedGroups.{addresses_just}
use Rattle.advertised_index.proofs.lsas_by_key.LsasByKey.has_addresses.Goals as goal

pub returns : goal.returns
returns c = addresses_just c.self.inside.members.keys c.args.self.now c.self.inside.noted c.self.invariant.1 c.self.view_is c.has_addresses.result c.has_addresses.ensures
