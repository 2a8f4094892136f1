-- The printed text of faults.
use Rattle.std.specs.Prelude.{ℕ, List, codes}
use Rattle.packets.specs.declared.datagram_fault.DatagramFault.{DatagramFault}
use Rattle.packets.specs.declared.datagram_fault.DatagramFault.TheVariants.{Header, Length, Fragment}

-- the number and the name
abbrev pub datagram_fault_text : DatagramFault → List ℕ
datagram_fault_text Header = codes "80 Header"
datagram_fault_text Length = codes "81 Length"
datagram_fault_text Fragment = codes "82 Fragment"
