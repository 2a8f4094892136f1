use Rattle.std.proofs.Common.{rules}
use Rattle.ospf_types.specs.Words.{mixed}
use Rattle.ospf_types.proofs.hasher.mix.Goals as goal

pub returns : goal.returns
unfolding mixed
returns c = search rules
