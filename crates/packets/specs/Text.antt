-- The printed text of faults.
use Rattle.std.specs.Prelude.{ℕ, List, codes}
use Rattle.packets.specs.declared.fault.PacketFault.{PacketFault}
use Rattle.packets.specs.declared.fault.PacketFault.TheVariants.{Short, Version, Kind, Length, Checksum}
use Rattle.packets.specs.declared.fault.UpdateFault.{UpdateFault}
use Rattle.packets.specs.declared.fault.UpdateFault.TheVariants.{Count, LsaLength}

-- the number and the name
abbrev pub packet_fault_text : PacketFault → List ℕ
packet_fault_text Short = codes "70 Short"
packet_fault_text Version = codes "71 Version"
packet_fault_text Kind = codes "72 Kind"
packet_fault_text Length = codes "73 Length"
packet_fault_text Checksum = codes "74 Checksum"

abbrev pub update_fault_text : UpdateFault → List ℕ
update_fault_text Count = codes "75 Count"
update_fault_text (LsaLength place) = codes "76 LsaLength"
