use Rattle.std.proofs.Common.{rules}
use Rattle.ospf_types.proofs.Bytes.{written-four}
use Rattle.ospf_types.proofs.hasher.WordHasherHasher.write_u32.Goals as goal

pub returns : goal.returns
returns c = let e = written-four c.args.self.now.multiplier c.args.self.now.state c.args.i (search rules) in cc
