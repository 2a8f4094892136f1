use Rattle.lsa_codec.specs.Faults.{fault_of}
use Rattle.abr_c.specs.CTypes.{scope_of}
use Rattle.abr_c.specs.Slots.{core_in}
use Rattle.abr_c.proofs.Refused.{fault_told, none_installed}
use Rattle.abr_c.proofs.events.abr_install_bytes.Goals as goal

pub returns-in-Err : goal.returns-in-Err
returns-in-Err c =
    none_installed (scope_of c.args.scope) c.args.lsa.now (core_in c.args.slot.now) c.in-Err.fault c.wire_number.result (fault_told (fault_of c.args.lsa.now) c.read.result c.in-Err.fault c.read.ensures.fault c.read.ensures.accepted c.in-Err.is) c.wire_number.ensures
