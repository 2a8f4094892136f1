use Rattle.std.proofs.Common.{inl, inr, refl}
use Rattle.lsa_codec.specs.Faults.{fault_of}
use Rattle.abr_c.proofs.Refused.{fault_told, none_found, number_told}
use Rattle.abr_c.proofs.lsas.abr_lsa_fault_bytes.Goals as goal

pub returns-in_default : goal.returns-in_default
returns-in_default c = inr (none_found (fault_of c.args.lsa.now) c.read.result c.in_default.field-0 c.read.ensures.fault c.in_default.is, inl refl)

pub returns : goal.returns
returns c = number_told c.args.lsa.now c.in-Err.fault c.wire_number.result (fault_told (fault_of c.args.lsa.now) c.read.result c.in-Err.fault c.read.ensures.fault c.read.ensures.accepted c.in-Err.is) c.wire_number.ensures
