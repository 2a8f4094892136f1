-- The printed text of a fault of a configuration: its number and its name.
use Rattle.std.specs.Prelude.{ℕ, List, codes}
use Rattle.ospf_types.specs.declared.fault.ConfigFault.{ConfigFault}
use Rattle.ospf_types.specs.declared.fault.ConfigFault.TheVariants as fault

abbrev pub config_fault_text : ConfigFault → List ℕ
config_fault_text fault.Areas = codes "40 Areas"
config_fault_text fault.RangesOverlap = codes "41 RangesOverlap"
config_fault_text fault.BackboneStub = codes "42 BackboneStub"
config_fault_text fault.Cost = codes "43 Cost"
config_fault_text fault.RangeCount = codes "44 RangeCount"
config_fault_text fault.Memory = codes "30 Memory"
