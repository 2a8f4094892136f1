use Rattle.lsa_codec.proofs.Kept.{written_none}
use Rattle.lsa_codec.proofs.writing.write.Goals as goal

pub returns-in_err-extend_from_slice-clause-read : goal.returns-in_err-extend_from_slice-clause-read
returns-in_err-extend_from_slice-clause-read c = written_none c.lsa.inside.bytes.items c.args.lsa.now c.lsa.view_is c.lsa.invariant

pub returns-clause-read : goal.returns-clause-read
returns-clause-read c = written_none c.lsa.inside.bytes.items c.args.lsa.now c.lsa.view_is c.lsa.invariant
