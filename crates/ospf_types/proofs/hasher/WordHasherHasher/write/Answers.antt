use Rattle.std.proofs.Common.{rules}
use Rattle.ospf_types.specs.Words.{written}
use Rattle.ospf_types.proofs.hasher.WordHasherHasher.write.Goals as goal

pub returns : goal.returns
unfolding written
returns c = search rules
