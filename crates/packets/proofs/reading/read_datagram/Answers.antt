use Rattle.std.proofs.Common.{sym, ◌∙◌}
use Rattle.packets.proofs.FirstFault.{has_room}
use Rattle.packets.proofs.reading.read_datagram.Goals as goal

pub datagram_in-requires : goal.datagram_in-requires
datagram_in-requires c = has_room c.args.bytes.now (sym c.fault.ensures ∙ c.in-None.is)
