use Rattle.std.proofs.Common.{rules}
use Rattle.captured_lsas.proofs.Carrying.{carries_none, heard_of}
use Rattle.captured_lsas.proofs.listener.Listener.hear.Goals as goal

pub returns-in_default-clause-heard : goal.returns-in_default-clause-heard
returns-in_default-clause-heard c =
    carries_none c.args.packet.now.link c.args.packet.now.bytes.now c.args.self.now c.ospf_in.result c.ospf_in.ensures (search rules)

pub returns-in-Ok-clause-heard : goal.returns-in-Ok-clause-heard
returns-in-Ok-clause-heard c =
    heard_of c.args.packet.now.link c.args.packet.now.bytes.now c.args.self.now c.take.new.self c.ospf_in.result c.in-Some.bytes c.in-Ok.datagram c.take.result c.ospf_in.ensures (search rules) (search rules) c.take.ensures.given
