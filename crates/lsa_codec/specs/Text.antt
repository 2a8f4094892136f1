-- The printed text of faults.
use Rattle.std.specs.Prelude.{ℕ, List, codes}
use Rattle.lsa_codec.specs.declared.fault.WireFault.{WireFault}
use Rattle.lsa_codec.specs.declared.fault.WireFault.TheVariants.{Length, Checksum, Age, Sequence, Kind, Reserved, Mask, RouterId, LinkType, Shape, Memory}

-- the number and the name
abbrev pub wire_fault_text : WireFault → List ℕ
wire_fault_text Length = codes "1 Length"
wire_fault_text Checksum = codes "2 Checksum"
wire_fault_text Age = codes "3 Age"
wire_fault_text Sequence = codes "4 Sequence"
wire_fault_text Kind = codes "5 Kind"
wire_fault_text Reserved = codes "6 Reserved"
wire_fault_text Mask = codes "7 Mask"
wire_fault_text RouterId = codes "8 RouterId"
wire_fault_text LinkType = codes "9 LinkType"
wire_fault_text Shape = codes "10 Shape"
wire_fault_text Memory = codes "30 Memory"
