use Rattle.std.proofs.Common.{take_all, rules}
use Rattle.std.proofs.hash.Loops.{byte_more}
use Rattle.ospf_types.specs.Words.{mixed_bytes}
use Rattle.ospf_types.proofs.hasher.mix_bytes.Goals as goal

pub loop-byte-preserved : goal.loop-byte-preserved
loop-byte-preserved c = search (rules, byte_more)

pub returns : goal.returns
unfolding mixed_bytes
returns c = search (rules, take_all)
