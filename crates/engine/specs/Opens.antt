-- The faults of opening an engine, and the serial of a roll.
use Rattle.std.specs.Prelude.{ℕ, ◌≡◌, ◌≤◌, ◌<◌, ◌+◌, ◌++◌, ◌∷◌, ◌⊎◌, List, [], All, length, Option, Some, None}
use Rattle.ospf_types.specs.declared.config.Config.{Config}
use Rattle.event_core.specs.ConfigFault.TheVariants.{Memory}
use Rattle.event_core.specs.Configs.{config_fault_of}
use Rattle.event_state.specs.BaseFaults.{base_fault_of}
use Rattle.event_state.specs.Steps.{standard_limits}
use Rattle.event_state.specs.declared.base.Base.{Base}
use Rattle.event_state.specs.declared.base_fault.BaseFault.{BaseFault}
use Rattle.event_state.specs.declared.base_fault.BaseFault.TheVariants as base_fault
use Rattle.event_state.specs.declared.event.Event.{Event}
use Rattle.event_state.specs.Rolls.{IsRolled}
use Rattle.publication.specs.Forwarders.{ForwarderValue}
use Rattle.publication.specs.Names.{Name}
use Rattle.publication.specs.Published.{IsLegalHistory}
use Rattle.engine.specs.EngineStates.{AreReaders}
use Rattle.engine.specs.declared.open_fault.OpenFault.{OpenFault}
use Rattle.engine.specs.declared.open_fault.OpenFault.TheVariants as opens

-- a fault of the configuration before all others, then the number of readers, then the faults that
-- only a lack of memory, or of a place for a reader, can cause
abbrev pub IsOpenFaultOf : Config → ℕ → OpenFault → Type 0
IsOpenFaultOf config readers (opens.Config f) = (config_fault_of config ≡ Some f) ⊎ ((f ≡ Memory) × (config_fault_of config ≡ None) × AreReaders readers)
IsOpenFaultOf config readers opens.Doubled = ⊥
IsOpenFaultOf config readers (opens.EntryFault u) = ⊥
IsOpenFaultOf config readers opens.Readers = (config_fault_of config ≡ None) × ((readers ≡ 0) ⊎ (64 < readers))
IsOpenFaultOf config readers opens.Place = (config_fault_of config ≡ None) × AreReaders readers

abbrev pub open_fault_of : BaseFault → OpenFault
open_fault_of (base_fault.Config f) = opens.Config f
open_fault_of base_fault.Doubled = opens.Doubled
open_fault_of (base_fault.EntryFault u) = opens.EntryFault u

-- The first fault of the base before all others, then the same. Before a lack of memory only a
-- fault of the configuration is tested for.
abbrev pub IsOpenFaultFrom : Base → ℕ → OpenFault → Type 0
IsOpenFaultFrom base readers (opens.Config f) = (base_fault_of standard_limits base ≡ Some (base_fault.Config f)) ⊎ ((f ≡ Memory) × (config_fault_of base.config ≡ None))
IsOpenFaultFrom base readers opens.Doubled = base_fault_of standard_limits base ≡ Some base_fault.Doubled
IsOpenFaultFrom base readers (opens.EntryFault u) = base_fault_of standard_limits base ≡ Some (base_fault.EntryFault u)
IsOpenFaultFrom base readers opens.Readers = (base_fault_of standard_limits base ≡ None) × ((readers ≡ 0) ⊎ (64 < readers))
IsOpenFaultFrom base readers opens.Place = (base_fault_of standard_limits base ≡ None) × AreReaders readers

-- the serial after a legal list
abbrev pub IsRolledSerial : Base → ℕ → Type 0
IsRolledSerial base serial = (list : List Event) × IsLegalHistory base list × (serial ≡ base.serial + length list)

-- the configuration has no fault, and the number of readers is allowed
abbrev pub CanOpen : Config → ℕ → Type 0
CanOpen config readers = (config_fault_of config ≡ None) × AreReaders readers

-- the base has no fault, and the number of readers is allowed
abbrev pub CanOpenFrom : Base → ℕ → Type 0
CanOpenFrom base readers = (base_fault_of standard_limits base ≡ None) × AreReaders readers

-- the faults that come last: no place for a reader, or a lack of memory
abbrev pub IsLastFault : OpenFault → Type 0
IsLastFault fault = (fault ≡ opens.Place) ⊎ (fault ≡ opens.Config Memory)

-- the forwarders of an engine that was opened just now
abbrev pub AreNew : Name → List ForwarderValue → Type 0
AreNew name forwarders = All (λ f. (f.name ≡ name) × (f.known ≡ [])) forwarders

-- one more of these
abbrev pub IsNewAdded : Name → List ForwarderValue → List ForwarderValue → Type 0
IsNewAdded name before after = (f : ForwarderValue) × (after ≡ before ++ f ∷ []) × (f.name ≡ name) × (f.known ≡ [])

-- some events were rolled into the base
abbrev pub IsRolledFrom : Base → Base → Type 0
IsRolledFrom base after = (rolled : List Event) × IsRolled base standard_limits rolled after
