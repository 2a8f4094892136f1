use Rattle.advertised_index.proofs.NotedGroups.{some_number}
use Rattle.advertised_index.proofs.known_keys.KnownKeys.has_addresses.Goals as goal

pub returns : goal.returns
returns c = some_number c.args.self.now.addresses.keys c.is_empty.result c.is_empty.ensures
